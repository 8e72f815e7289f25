-- What one word more does to the words that were read, and to what is behind them.
use Rattle.std.specs.Prelude.{ℕ, ◌+◌, ◌-◌, ◌≤◌, ◌<◌, ◌≡◌, ◌≢◌, refl, List, [], ◌∷◌, ◌++◌, Option, length, take, drop, set}
use Rattle.std.proofs.Common.{sym, ◌∙◌, ap, subst, arith}
use Rattle.std.proofs.lemmas.List.{take_more_set, drop-set-lt, drop-drop}
use Rattle.cases.specs.Word.{TakesWord, TakesWords}

takes_more : (before middle after : Option (List ℕ)) (words : List ℕ) (word : ℕ) → TakesWords before middle words → (word ≢ 0 → TakesWord middle after word) → TakesWords before after (words ++ (word ∷ []))
takes_more before middle after [] word t h = (after, (λ n. subst (λ x. TakesWord x after word) (sym t) (h n)), refl)
takes_more before middle after (w ∷ words) word t h = (t.0, t.1, takes_more t.0 middle after words word t.2 h)

pub takes_set : (before middle after : Option (List ℕ)) (xs : List ℕ) (i word : ℕ) → i < length xs → TakesWords before middle (take i xs) → (word ≢ 0 → TakesWord middle after word) → TakesWords before after (take (i + 1) (set xs i word))
takes_set before middle after xs i word l t h = subst (TakesWords before after) (sym (take_more_set xs i word l)) (takes_more before middle after (take i xs) word t h)

pub behind_set : (xs ys : List ℕ) (i word : ℕ) → drop i xs ≡ drop i ys → drop (i + 1) (set xs i word) ≡ drop (i + 1) ys
behind_set xs ys i word e = drop-set-lt (i + 1) xs i word (omega arith) ∙ sym (drop-drop 1 i xs) ∙ ap (drop 1) e ∙ drop-drop 1 i ys

pub behind_on : (xs ys : List ℕ) (i n : ℕ) → i ≤ n → drop i xs ≡ drop i ys → drop n xs ≡ drop n ys
behind_on xs ys i n h e =
    let s : n ≡ i + (n - i) = omega arith in
    subst (λ m. drop m xs ≡ drop m ys) (sym s) (sym (drop-drop (n - i) i xs) ∙ ap (drop (n - i)) e ∙ drop-drop (n - i) i ys)
