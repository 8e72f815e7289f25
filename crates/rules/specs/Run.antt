-- A search, as the questions that it asks and what it comes to. There is no count in it: `asks` stands wherever a count would rise.
-- It is read without a step limit (`free`, `asked`) or with one (`within`).
use Rattle.std.specs.Prelude.{ℕ, suc, Bool, true, false}

-- A search: it is done with a value, stops with a number, or asks a question and goes on.
pub data Run (A : Type 0) : Type 0 where
  done : A → Run A
  stop : ℕ → Run A
  asks : Run A → Run A

-- What a call comes to: a value, or a refusal's number.
pub data Out (A : Type 0) : Type 0 where
  got : A → Out A
  refused : ℕ → Out A

infixl 10 ◌>>=◌
-- One thing after another; a stop ends it where met.
unfoldable pub ◌>>=◌ : {A B : Type 0} → Run A → (A → Run B) → Run B
done a >>= f = f a
stop n >>= f = stop n
asks r >>= f = asks (r >>= f)

-- Without a step limit: what it comes to,
unfoldable pub free : {A : Type 0} → Run A → Out A
free (done a) = got a
free (stop n) = refused n
free (asks r) = free r

-- and how many questions it asks.
unfoldable pub asked : {A : Type 0} → Run A → ℕ
asked (done a) = 0
asked (stop n) = 0
asked (asks r) = suc (asked r)

-- With a step limit, from a count: "The count rises by 1; above 2,000 it is 18." `over` tests whether a count is above the limit.
unfoldable pub within : {A : Type 0} → (ℕ → Bool) → Run A → ℕ → Out A × ℕ
within over (done a) c = (got a, c)
within over (stop n) c = (refused n, c)
within over (asks r) c = elim (over (suc c)) [ true ↦ (refused 18, suc c) | false ↦ within over r (suc c) ]
