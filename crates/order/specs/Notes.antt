-- What is noted of classes as four times 2,048 words, part by part.
use Rattle.std.specs.Prelude.{ℕ, zero, suc, ◌+◌, ◌-◌, ◌<◌, ◌≡◌, refl, Bool, true, false, List, ◌∷◌, ◌++◌, map, length, set, get_or, replicate}
use Rattle.std.specs.Int.{from_bool}
use Rattle.std.proofs.Common.{ap, ap₂, sym, ◌∙◌, arith}
use Rattle.std.proofs.Math.Seq.{map-set_same}
use Rattle.std.proofs.lemmas.List.{map-set, length-map, get_or-map, get_or_append_left, get_or-append_right, set-append_left, set-append_right, replicate-append-replicate}
use Rattle.rules.specs.Lists.{Words}
use Rattle.rules.specs.Sheet.{at}
use Rattle.order.specs.declared.classes.Class.{Class}

abbrev none : Class
none = record { link = 0; more = 0; source = 0 }

abbrev links : List Class → Words
links cs = map (λ c. c.link) cs

abbrev mores : List Class → Words
mores cs = map (λ c. c.more) cs

abbrev sources : List Class → Words
sources cs = map (λ c. c.source) cs

abbrev marks : List Bool → Words
marks os = map from_bool os

-- All links, all that was added, all sources, and the marks.
unfoldable pub words_of : List Class → List Bool → Words
words_of cs os = links cs ++ (mores cs ++ (sources cs ++ marks os))

-- What stands behind a list, read
behind : (xs ys : Words) (n k i : ℕ) → length xs ≡ n → k ≡ n + i → at (xs ++ ys) k ≡ at ys i
behind xs ys n k i h e = get_or-append_right xs ys n k 0 h (omega (arith, e)) ∙ ap (at ys) (let z : k - n ≡ i = omega (arith, e) in z)

-- and written.
set_behind : (xs ys : Words) (n k i w : ℕ) → length xs ≡ n → k ≡ n + i → set (xs ++ ys) k w ≡ xs ++ set ys i w
set_behind xs ys n k i w h e = set-append_right xs ys n k w h (omega (arith, e)) ∙ ap (λ j. xs ++ set ys j w) (let z : k - n ≡ i = omega (arith, e) in z)

module _ (cs : List Class) (os : List Bool) (hc : length cs ≡ 2048) where
  long : (f : Class → ℕ) → length (map f cs) ≡ 2048
  long f = length-map cs f ∙ hc

  pub at_link : (i : ℕ) → i < 2048 → (get_or cs i none).link ≡ at (words_of cs os) i
  unfolding words_of
  at_link i h = sym (get_or_append_left (links cs) _ 0 i (omega (arith, h, long (λ c. c.link))) ∙ get_or-map (λ c. c.link) cs i _ 0 (omega (arith, h, hc)))

  pub at_more : (i : ℕ) → i < 2048 → (get_or cs i none).more ≡ at (words_of cs os) (2048 + i)
  unfolding words_of
  at_more i h = sym (behind (links cs) _ 2048 (2048 + i) i (long (λ c. c.link)) refl ∙ get_or_append_left (mores cs) _ 0 i (omega (arith, h, long (λ c. c.more))) ∙ get_or-map (λ c. c.more) cs i _ 0 (omega (arith, h, hc)))

  pub at_source : (i : ℕ) → i < 2048 → (get_or cs i none).source ≡ at (words_of cs os) (4096 + i)
  unfolding words_of
  at_source i h = sym
      (behind (links cs) _ 2048 (4096 + i) (2048 + i) (long (λ c. c.link)) (omega arith)
      ∙ behind (mores cs) _ 2048 (2048 + i) i (long (λ c. c.more)) refl
      ∙ get_or_append_left (sources cs) _ 0 i (omega (arith, h, long (λ c. c.source)))
      ∙ get_or-map (λ c. c.source) cs i _ 0 (omega (arith, h, hc)))

  pub at_mark : (i : ℕ) → i < length os → from_bool (get_or os i false) ≡ at (words_of cs os) (6144 + i)
  unfolding words_of
  at_mark i h = sym
      (behind (links cs) _ 2048 (6144 + i) (4096 + i) (long (λ c. c.link)) (omega arith)
      ∙ behind (mores cs) _ 2048 (4096 + i) (2048 + i) (long (λ c. c.more)) (omega arith)
      ∙ behind (sources cs) _ 2048 (2048 + i) i (long (λ c. c.source)) refl
      ∙ get_or-map from_bool os i false 0 h)

  -- A class is marked.
  pub own_set : (i : ℕ) → words_of cs (set os i true) ≡ set (words_of cs os) (6144 + i) 1
  unfolding words_of
  own_set i = sym
      (set_behind (links cs) _ 2048 (6144 + i) (4096 + i) 1 (long (λ c. c.link)) (omega arith)
      ∙ ap (λ xs. links cs ++ xs)
      (set_behind (mores cs) _ 2048 (4096 + i) (2048 + i) 1 (long (λ c. c.more)) (omega arith)
      ∙ ap (λ xs. mores cs ++ xs) (set_behind (sources cs) _ 2048 (2048 + i) i 1 (long (λ c. c.source)) refl ∙ ap (λ xs. sources cs ++ xs) (sym (map-set from_bool os i true)))))

  -- A field of a class is written.
  module _ (i w : ℕ) (c : Class) (h : i < 2048) where
    pub link_set : w ≡ c.link → c.more ≡ (get_or cs i none).more → c.source ≡ (get_or cs i none).source → words_of (set cs i c) os ≡ set (words_of cs os) i w
    unfolding words_of
    link_set el em es =
        ap₂ (λ xs ys. xs ++ ys) (map-set (λ c. c.link) cs i c ∙ ap (set (links cs) i) (sym el)) (ap₂ (λ xs ys. xs ++ (ys ++ marks os)) (map-set_same (λ c. c.more) cs i c none em) (map-set_same (λ c. c.source) cs i c none es))
        ∙ sym (set-append_left (links cs) _ i w (omega (arith, h, long (λ c. c.link))))

    pub more_set : w ≡ c.more → c.link ≡ (get_or cs i none).link → c.source ≡ (get_or cs i none).source → words_of (set cs i c) os ≡ set (words_of cs os) (2048 + i) w
    unfolding words_of
    more_set em el es =
        ap₂ (λ xs ys. xs ++ ys) (map-set_same (λ c. c.link) cs i c none el) (ap₂ (λ xs ys. xs ++ (ys ++ marks os)) (map-set (λ c. c.more) cs i c ∙ ap (set (mores cs) i) (sym em)) (map-set_same (λ c. c.source) cs i c none es))
        ∙ sym (set_behind (links cs) _ 2048 (2048 + i) i w (long (λ c. c.link)) refl ∙ ap (λ xs. links cs ++ xs) (set-append_left (mores cs) _ i w (omega (arith, h, long (λ c. c.more)))))

    pub source_set : w ≡ c.source → c.link ≡ (get_or cs i none).link → c.more ≡ (get_or cs i none).more → words_of (set cs i c) os ≡ set (words_of cs os) (4096 + i) w
    unfolding words_of
    source_set es el em =
        ap₂ (λ xs ys. xs ++ ys) (map-set_same (λ c. c.link) cs i c none el) (ap₂ (λ xs ys. xs ++ (ys ++ marks os)) (map-set_same (λ c. c.more) cs i c none em) (map-set (λ c. c.source) cs i c ∙ ap (set (sources cs) i) (sym es)))
        ∙ sym
        (set_behind (links cs) _ 2048 (4096 + i) (2048 + i) w (long (λ c. c.link)) (omega arith)
        ∙ ap (λ xs. links cs ++ xs) (set_behind (mores cs) _ 2048 (2048 + i) i w (long (λ c. c.more)) refl ∙ ap (λ xs. mores cs ++ xs) (set-append_left (sources cs) _ i w (omega (arith, h, long (λ c. c.source))))))

-- Nothing is noted.
map_repeat : {A : Type 0} (f : A → ℕ) (n : ℕ) (x : A) → map f (replicate n x) ≡ replicate n (f x)
map_repeat f zero x = refl
map_repeat f (suc n) x = ap (λ xs. f x ∷ xs) (map_repeat f n x)

nothing : (n : ℕ) → words_of (replicate n none) (replicate n false) ≡ replicate (n + (n + (n + n))) 0
unfolding words_of
nothing n =
    ap₂ (λ xs ys. xs ++ ys) (map_repeat (λ c. c.link) n none) (ap₂ (λ xs ys. xs ++ ys) (map_repeat (λ c. c.more) n none) (ap₂ (λ xs ys. xs ++ ys) (map_repeat (λ c. c.source) n none) (map_repeat from_bool n false) ∙ replicate-append-replicate n n 0) ∙ replicate-append-replicate n (n + n) 0)
    ∙ replicate-append-replicate n (n + (n + n)) 0

pub words_new : (cs : List Class) (os : List Bool) → cs ≡ replicate 2048 none → os ≡ replicate 2048 false → words_of cs os ≡ replicate 8192 0
words_new cs os ec eo = ap₂ words_of ec eo ∙ nothing 2048
