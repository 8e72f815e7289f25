-- What a step of the test comes to, and what two sides, as the numbers that `Following` and `Going` speak of.
use Rattle.std.specs.Prelude.{ℕ, ◌+◌, ◌*◌, ◌/◌, ◌<◌, ◌≤◌, refl, Bool, true, false, not, Option, Some, None, Result, Ok, Err, ◌≡◌, ◌≢◌}
use Rattle.std.specs.Int.{from_bool}
use Rattle.std.specs.Option.{IfSome}
use Rattle.std.proofs.Common.{ap, arith, ◌∙◌, lt-ltb, le-ltb}
use Rattle.std.proofs.lemmas.Option.{IfSome_then}
use Rattle.rules.specs.Lists.{Words}
use Rattle.rules.specs.Sheet.{at}
use Rattle.refs.specs.Meaning.{record_side, turn}
use Rattle.refs.specs.Refs.{apart, place, side_bit}
use Rattle.rules.specs.Sheet.{kind_flag}
use Rattle.rules.specs.Types.{size_at}
use Rattle.table.specs.Packing.{types_of}
use Rattle.order.specs.Stage.{base, kind_word, id_word}
use Rattle.order.specs.Joined.{Hangs, joins_left, joins_right}
use Rattle.order.specs.Meeting.{Joins}
use Rattle.order.specs.Going.{Compared, compared_bit, compared_flag}
use Rattle.order.specs.Words.{Linked, Found, Roots, roots_up, roots_param}
use Rattle.order.specs.declared.Halt.{Halt}
use Rattle.order.specs.declared.Halt.TheVariants.{Clash, Stop}

-- 0, the rule fails; 2, nothing is said;
abbrev pub halt_code : Halt → ℕ
halt_code Clash = 0
halt_code Stop = 2

-- 1, it goes on.
abbrev pub step_code : Result Unit Halt → ℕ
step_code (Ok _) = 1
step_code (Err h) = halt_code h

pub halt_not-on : (h : Halt) → halt_code h ≢ 1
halt_not-on Clash e = omega (arith, e)
halt_not-on Stop e = omega (arith, e)

-- 1 or 0, whether two types are met inverted; 2, they clash.
abbrev pub side_code : Option Bool → ℕ
side_code (Some b) = from_bool b
side_code None = 2

-- The root of a type by its first link,
pub roots_first : (s ps m : Words) (t v : ℕ) (o : Option ℕ) → Linked m t v → IfSome o (λ x. (x < 4096) × Found m v x) → IfSome o (λ x. (x < 4096) × Roots s ps m t x)
roots_first s ps m t v o h f = IfSome_then o f (λ x p. (p.0, roots_up s ps m t v x h p.1))

-- or by its parameter.
pub roots_parameter : (s ps m : Words) (t p k d b v : ℕ) (i : Bool) (o : Option ℕ) → 1024 ≤ t / 2 → p ≡ place ps (t / 2) → k ≡ at s (p + 1) → k ≡ 1 → d ≡ at s (p + 3) → d < 8 → i ≡ record_side s p → b ≡ from_bool i → v ≡ turn t (2 * (256 + d) + b) → IfSome o (λ x. (x < 4096) × Found m v x) → IfSome o (λ x. (x < 4096) × Roots s ps m t x)
roots_parameter s ps m t p k d b v i o l ep ek y ed hd ei eb ev f = IfSome_then o f (λ x q. (q.0, roots_param s ps m t p k d b v x l ep ek y ed hd (side_bit i (record_side s p) b ei eb) ev (λ h. q.1) q.0))

-- Two sides that are told.
pub compared_sides : (s ps ws : Words) (p q : ℕ) (i : Bool) → i ≡ apart s ps ws p q → Compared s ps ws p q (from_bool i)
compared_sides s ps ws p q i e = compared_bit s ps ws p q (from_bool i) (side_bit i (apart s ps ws p q) (from_bool i) e refl)

pub compared_met : (s ps ws : Words) (p q k d : ℕ) (i f : Bool) → i ≡ apart s ps ws p q → i ≡ true → k ≡ kind_word s ps ws (p / 2) → d ≡ id_word s ps ws (p / 2) → f ≡ kind_flag s 3 k d → f ≡ false → Compared s ps ws p q 2
compared_met s ps ws p q k d i f ei ti ek ed ef z = compared_flag s ps ws p q k d (from_bool i) k d f ek ed (side_bit i (apart s ps ws p q) (from_bool i) ei refl) (ap from_bool ti) refl refl ef (ap not z)

-- Two sizes that are told.
pub joins_under : (ws m : Words) (x y a b : ℕ) (bx by : Bool) (m' : Words) (r : ℕ) → (a < 65536) × (a ≡ base ws (x / 2) + at m (2048 + x / 2)) → (b < 65536) × (b ≡ base ws (y / 2) + at m (2048 + y / 2)) → b < a → Hangs m y x b bx m' r → Joins ws m x y bx by m' r
joins_under ws m x y a b bx by m' r ea eb h g = joins_left ws m x y a b bx by m' r (λ z. ea.1) (λ z. eb.1) ea.0 eb.0 h g

pub joins_over : (ws m : Words) (x y a b : ℕ) (bx by : Bool) (m' : Words) (r : ℕ) → (a < 65536) × (a ≡ base ws (x / 2) + at m (2048 + x / 2)) → (b < 65536) × (b ≡ base ws (y / 2) + at m (2048 + y / 2)) → a ≤ b → Hangs m x y a by m' r → Joins ws m x y bx by m' r
joins_over ws m x y a b bx by m' r ea eb h g = joins_right ws m x y a b bx by m' r (λ z. ea.1) (λ z. eb.1) ea.0 eb.0 h g

-- What a class begins with.
pub base_node : (ws : Words) (r a : ℕ) → r < 256 → a ≡ size_at (types_of ws) r → a ≡ base ws r
unfolding base
base_node ws r a h e = e ∙ rw (lt-ltb r 256 h, base)

pub base_other : (ws : Words) (r : ℕ) → 256 ≤ r → 1 ≡ base ws r
unfolding base
base_other ws r h = rw (le-ltb r 256 h, base)
