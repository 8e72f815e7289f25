-- Links between types that mean the same, and the way along them.
use Rattle.std.specs.Prelude.{ℕ, ◌+◌, ◌-◌, ◌*◌, ◌/◌, ◌%◌, ◌<◌, ◌≡◌, refl, ◌≢◌, eqb, length, set}
use Rattle.std.proofs.Common.{sym, ◌∙◌, ap, ap₂, ⊎_elim, arith, length-set, get_or-set_same, get_or-set_other}
use Rattle.std.proofs.Math.Decide.{ℕ_discrete}
use Rattle.rules.specs.Lists.{Words}
use Rattle.rules.specs.Sheet.{at}
use Rattle.rules.specs.WordLaws.{word_past}
use Rattle.rules.specs.Pigeonholes.{lt_or}
use Rattle.rules.specs.SignedTerms.{SignedSol, turned}
use Rattle.refs.specs.Meaning.{odd, means, means_mod, means_ref, means-turn, turn, Records}
use Rattle.refs.specs.Refs.{Alike}

-- A link that is not 0 is one more than a type that means what the ref does.
pub record Linked (s : Words) (m : SignedSol) (ls : Words) : Type 0 where
  pub link : (r : ℕ) → at ls r ≢ 0 → m r ≡ means s m (at ls r - 1)

-- x is found from t along links.
pub record Finds (ls : Words) (t x : ℕ) : Type 0 where
  pub at : (s : Words) (m : SignedSol) → Linked s m ls → means s m t ≡ means s m x

pub finds_same : (ls : Words) (t : ℕ) → Finds ls t t
finds_same ls t = record { at = λ s m l. refl }

odd-rest : (t : ℕ) → odd t ≡ odd (t % 2)
unfolding odd
odd-rest t = ap (λ k. eqb k 1) (let z : t % 2 ≡ t % 2 % 2 = omega arith in z)

pub finds_up : (ls : Words) (t x w u v : ℕ) → Finds ls t x → w ≡ x / 2 % 2048 → u ≡ at ls w → u ≢ 0 → v ≡ turn (x % 2) (u - 1) → Finds ls t v
unfolding means
finds_up ls t x w u v f e q z ev =
    let o : u ≡ at ls (x / 2 % 2048) = q ∙ ap (at ls) e in
    record {
      at = λ s m l.
          f.at s m l
          ∙ ap (turned s (odd x)) (l.link (x / 2 % 2048) (λ y. z (o ∙ y)) ∙ ap (λ k. means s m (k - 1)) (sym o))
          ∙ ap (λ i. turned s i (means s m (u - 1))) (odd-rest x)
          ∙ sym (means-turn s m (x % 2) (u - 1))
          ∙ ap (means s m) (sym ev);
    }

pub finds_far : (ls : Words) (t w u v x : ℕ) → w ≡ t / 2 % 2048 → u ≡ at ls w → u ≢ 0 → v ≡ turn (t % 2) (u - 1) → Finds ls v x → Finds ls t x
finds_far ls t w u v x e q z ev f = record { at = λ s m l. (finds_up ls t t w u v (finds_same ls t) e q z ev).at s m l ∙ f.at s m l }

-- The same from the type that the ref is linked to.
pub finds_on : (ls : Words) (t x u v : ℕ) → Finds ls t x → u + 1 ≡ at ls (x / 2 % 2048) → v ≡ turn (x % 2) u → Finds ls t v
finds_on ls t x u v f e ev = finds_up ls t x (x / 2 % 2048) (u + 1) v f refl e (omega arith) (ev ∙ ap (turn (x % 2)) (let z : u ≡ u + 1 - 1 = omega arith in z))

pub finds_first : (ls : Words) (t u v x : ℕ) → Finds ls v x → u + 1 ≡ at ls (t / 2 % 2048) → v ≡ turn (t % 2) u → Finds ls t x
finds_first ls t u v x f e ev = record { at = λ s m l. (finds_on ls t t u v (finds_same ls t) e ev).at s m l ∙ f.at s m l }

turn_next : (b r : ℕ) → turn b (2 * r + 2 - 1) ≡ r * 2 + (1 + b) % 2
turn_next b r = omega arith

rest_twice : (q c : ℕ) → c < 2 → (q * 2 + c) % 4096 ≡ q % 2048 * 2 + c
rest_twice q c l = omega arith

side_next : (x : ℕ) → (1 + x % 2) % 2 ≡ (x + 1) % 2
side_next x = omega arith

side_small : (x : ℕ) → (x + 1) % 2 < 2
side_small x = omega arith

-- A ref that is linked to its own inverse means it.
pub finds_own : (ls : Words) (x r w u : ℕ) → r ≡ x / 2 % 2048 → w ≡ r → u ≡ at ls w → u ≡ 2 * r + 2 → Finds ls x (turn 1 x)
finds_own ls x r w u er ew eu o =
    let z : u ≢ 0 = omega (arith, o) in
    let f = finds_up ls x x w u (turn (x % 2) (u - 1)) (finds_same ls x) (ew ∙ er) eu z refl in
    let a : turn (x % 2) (u - 1) ≡ r * 2 + (1 + x % 2) % 2 = ap (λ k. turn (x % 2) (k - 1)) o ∙ turn_next (x % 2) r in
    let b : r * 2 + (1 + x % 2) % 2 ≡ x / 2 % 2048 * 2 + (x + 1) % 2 = ap₂ (λ (i j : ℕ). i * 2 + j) er (side_next x) in
    let e : turn (x % 2) (u - 1) ≡ turn 1 x % 4096 = a ∙ b ∙ sym (rest_twice (x / 2) ((x + 1) % 2) (side_small x)) in
    record { at = λ s m l. f.at s m l ∙ ap (means s m) e ∙ means_mod s m (turn 1 x) }

-- ks has a link besides by which x is y.
pub record Links (ls : Words) (x y : ℕ) (ks : Words) : Type 0 where
  pub at : (s : Words) (m : SignedSol) → Linked s m ls → means s m x ≡ means s m y → Linked s m ks

pub links_set : (ls : Words) (x y v w : ℕ) → v ≡ turn (x % 2) y → w ≡ x / 2 % 2048 → Links ls x y (set ls w (v % 4096 + 1))
links_set ls x y v w ev e = record { at = λ s m l q. record { link = λ r z. one s m l q r z } }
  where
    there : (s : Words) (m : SignedSol) → means s m x ≡ means s m y → m w ≡ means s m v
    there s m q = ap m e ∙ means_ref s m x ∙ ap (turned s (odd x)) q ∙ ap (λ i. turned s i (means s m y)) (odd-rest x) ∙ sym (means-turn s m (x % 2) y) ∙ ap (means s m) (sym ev)

    one : (s : Words) (m : SignedSol) → Linked s m ls → means s m x ≡ means s m y → (r : ℕ) → at (set ls w (v % 4096 + 1)) r ≢ 0 → m r ≡ means s m (at (set ls w (v % 4096 + 1)) r - 1)
    one s m l q r z = elim (ℕ_discrete r w) [
      | no d ↦
          let o : at (set ls w (v % 4096 + 1)) r ≡ at ls r = get_or-set_other ls w r (v % 4096 + 1) 0 d in
          l.link r (λ j. z (o ∙ j)) ∙ ap (λ k. means s m (k - 1)) (sym o)
      | yes d ↦ ⊎_elim
          (λ h.
          let o : at (set ls w (v % 4096 + 1)) r ≡ v % 4096 + 1 = ap (at (set ls w (v % 4096 + 1))) d ∙ get_or-set_same ls w (v % 4096 + 1) 0 h in
          ap m d ∙ there s m q ∙ sym (means_mod s m v) ∙ ap (means s m) (let p : v % 4096 ≡ at (set ls w (v % 4096 + 1)) r - 1 = omega (arith, o) in p))
          (λ h. absurd (z (ap (at (set ls w (v % 4096 + 1))) d ∙ sym (word_past (set ls w (v % 4096 + 1)) w (omega (arith, length-set ls w (v % 4096 + 1)))))))
          (lt_or w (length ls))
    ]

-- No links.
pub linked-none : (s : Words) (m : SignedSol) (ls : Words) → ((k : ℕ) → at ls k ≡ 0) → Linked s m ls
linked-none s m ls h = record { link = λ r z. absurd (z (h r)) }

-- A Param of the signature is linked to its type parameter, and r is found from that.
pub record Settles (s ps ls : Words) (x : ℕ) (ks : Words) (r : ℕ) : Type 0 where
  pub links : (m : SignedSol) → Records s ps m → Linked s m ls → Linked s m ks
  pub at : (m : SignedSol) → Records s ps m → Linked s m ls → means s m x ≡ means s m r

pub settles_param : (s ps ls : Words) (x p : ℕ) (ks : Words) (r : ℕ) → Alike s ps x p → Links ls x p ks → Finds ks p r → Settles s ps ls x ks r
settles_param s ps ls x p ks r a l f = record {
  links = λ m w k. l.at s m k (a.at m w);
  at = λ m w k. a.at m w ∙ f.at s m (l.at s m k (a.at m w));
}
