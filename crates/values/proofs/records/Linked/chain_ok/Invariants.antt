-- `chain_ok`: the records that are left decide.
use Rattle.std.specs.Iterator.Adapters.{enumerate_source, enumerate_count}
use Rattle.values.specs.Verdict.{Walk}
use Rattle.values.proofs.records.Linked.chain_ok.Given as goal

abbrev pub invariant-loop-d : goal.invariant-loop-d
invariant-loop-d l = Walk l.self.s.now l.h (enumerate_count l.d-iterator) (enumerate_source l.d-iterator)
