-- Elements taken from a list by their places, in their order, are that list.
use Rattle.std.proofs.Common.{◌≡◌, ℕ, zero, suc, ◌+◌, ◌≤◌, List, [], ◌∷◌, length, get_or, take, drop, sym, refl, ap, ◌∙◌, add-one, arith}
use Rattle.std.proofs.lemmas.List.{drop_more, take_all}

-- n elements from k on
abbrev pub spread : ℕ → ℕ → List ℕ → List ℕ
spread zero k xs = []
spread (suc n) k xs = get_or xs k 0 ∷ spread n (suc k) xs

pub spread_from : (n k : ℕ) (xs : List ℕ) → k + n ≤ length xs → spread n k xs ≡ take n (drop k xs)
spread_from zero k xs e = refl
spread_from (suc n) k xs e =
    ap (λ (l : List ℕ). get_or xs k 0 ∷ l) (spread_from n (suc k) xs (omega arith) ∙ ap (λ (j : ℕ). take n (drop j xs)) (sym (add-one k))) ∙ ap (take (suc n)) (sym (drop_more xs k 0 (omega arith)))

pub spread_all : (n : ℕ) (xs : List ℕ) → length xs ≡ n → spread n 0 xs ≡ xs
spread_all n xs h = spread_from n 0 xs (omega arith) ∙ take_all n xs (omega arith)
