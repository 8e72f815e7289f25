use Rattle.std.proofs.Common.{drop, ◌+◌, ◌-◌, ◌*◌, ◌≤◌}
use Rattle.rules.specs.Layout.{header_impls}
use Rattle.rules.specs.Sheet.{many}
use Rattle.finder.specs.Recalling.{Recalls}
use Rattle.finder.specs.Cycle.{Trying, Collecting}
use Rattle.finder.specs.Tails.{sub_one}
use Rattle.finder.specs.Steps.{finder_in, ask_below}
use Rattle.queries.specs.Queries.{queries_of}
use Rattle.finder.proofs.Search.+search.Given as goal

abbrev pub decreases-candidate : goal.decreases-candidate
decreases-candidate l = 20 * l.depth + 16

abbrev pub decreases-candidates : goal.decreases-candidates
decreases-candidates l = 20 * l.depth + 18

abbrev pub decreases-question : goal.decreases-question
decreases-question l = 20 * l.depth

abbrev pub decreases-recall_or_ask : goal.decreases-recall_or_ask
decreases-recall_or_ask l = 20 * l.depth + 15

abbrev pub decreases-result : goal.decreases-result
decreases-result l = 20 * l.depth + 3 + 3 * (l.qs.now.n - l.from)

abbrev pub decreases-results : goal.decreases-results
decreases-results l = 20 * l.depth + 4 + 3 * (l.qs.now.n - l.from)

abbrev pub decreases-sub_questions : goal.decreases-sub_questions
decreases-sub_questions l = 20 * l.depth + 2 + 3 * (l.qs.now.n - l.from)

abbrev pub invariant-candidates-loop-id : goal.invariant-candidates-loop-id
invariant-candidates-loop-id l = Trying l.self.sheet.now l.self.f l.basic l.q l.depth l.found l.fn.first.n l.fn.first.count l.initial.ws l.ws l.from l.stand.n l.stand.count × (l.from ≤ many l.self.sheet.now header_impls) × Recalls (ask_below l.depth (finder_in l.self)) l.recall

abbrev pub decreases-candidates-loop-id : goal.decreases-candidates-loop-id
decreases-candidates-loop-id l = many l.self.sheet.now header_impls - l.from

abbrev pub invariant-results-loop-k : goal.invariant-results-loop-k
invariant-results-loop-k l = Collecting l.self.f.limit (sub_one (ask_below l.depth (finder_in l.self)) (drop l.from (queries_of l.qs))) l.fn.first.n l.fn.first.count l.qs l.from l.initial.ws l.ws l.k l.stand.n l.stand.count
