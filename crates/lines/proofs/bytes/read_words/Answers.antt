-- `read_words`: one word more.
use Rattle.std.proofs.Common.{rules, arith}
use Rattle.lines.specs.Bytes.{reading_start, reading_more, reading_over, chunk_word}
use Rattle.lines.proofs.bytes.read_words.Goals as goal

pub loop-k-init : goal.loop-k-init
loop-k-init c = search (rules, reading_start)

pub loop-k-preserved : goal.loop-k-preserved
loop-k-preserved c =
    reading_more _ _ _ _ (omega (arith, c.as_chunks.ensures.front_len)) (omega (arith, c.as_chunks.ensures.front_len)) (chunk_word c.args.bytes.now _ _ _ _ _ c.as_chunks.ensures.front (omega (arith, c.as_chunks.ensures.front_len)) c.from_le_bytes.ensures) c.loop-k.invariant

pub returns : goal.returns
returns c = (reading_over _ _ _ _ (omega arith) c.requires.0 c.as_chunks.ensures.front_len c.loop-k.invariant, omega (arith, c.as_chunks.ensures.front_len))
