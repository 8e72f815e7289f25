-- What is noted at the start.
use Prim.Native.Nat.{ℕ, zero, suc}
use Rattle.std.specs.Prelude.{◌≡◌, refl, List, false, get_or, replicate}
use Rattle.std.proofs.Common.{ap, ◌∙◌}
use Rattle.meeting.specs.declared.notes.Note.{Note}
use Rattle.meeting.specs.declared.notes.Notes.{Notes}

-- The key of a note at a place.
abbrev pub key_at : List Note → ℕ → ℕ
key_at ns k = (get_or ns k (record { key = 0; mask = 0 })).key

-- No note has a key, and nothing was missed.
pub record Blank (n : Notes) : Type 0 where
  pub keys : (k : ℕ) → key_at n.notes k ≡ 0
  pub unmissed : n.missed ≡ false

blank : (n k : ℕ) → key_at (replicate n (record { key = 0; mask = 0 })) k ≡ 0
blank zero k = refl
blank (suc n) zero = refl
blank (suc n) (suc k) = blank n k

pub blank_notes : (n : ℕ) (o : Notes) → o.notes ≡ replicate n (record { key = 0; mask = 0 }) → o.missed ≡ false → Blank o
blank_notes n o e m = record { keys = λ k. ap (λ (ns : List Note). key_at ns k) e ∙ blank n k; unmissed = m }
