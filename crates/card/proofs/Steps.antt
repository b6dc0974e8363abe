-- What one turn of the loop over the keys keeps: the lines of the keys so far were taken.
use Rattle.std.proofs.Common.{◌≡◌, ℕ, ◌+◌, ◌-◌, ◌<◌, ◌≤◌, List, [], ◌∷◌, ◌++◌, length, get_or, take, drop, set, sym, ap, ◌∙◌, subst, append_assoc, append-nil, arith, take-add, Bor}
use Rattle.std.proofs.ByRecursion.{All-push}
use Rattle.std.proofs.lemmas.List.{take-append-drop, take_all, take_more, take_more_set, take_rest, length-take-le, length-drop, length-map, length_push, get_or-map}
use Rattle.card.specs.Text.{Small, bytes_of, line_of, lines_of, TookLine, FailsAt, Took, Refuses}
use Rattle.card.specs.declared.fault.TextFault.{TextFault}

lines_push : (ks : List (List ℕ)) (vs : List ℕ) (k : List ℕ) (v : ℕ) → length vs ≡ length ks → lines_of (ks ++ (k ∷ [])) (vs ++ (v ∷ [])) ≡ lines_of ks vs ++ line_of k v
lines_push [] [] k v e = append-nil (line_of k v)
lines_push [] (x ∷ vs) k v e = absurd (omega arith)
lines_push (j ∷ ks) [] k v e = absurd (omega arith)
lines_push (j ∷ ks) (x ∷ vs) k v e = ap (λ (r : List ℕ). line_of j x ++ r) (lines_push ks vs k v (omega arith)) ∙ sym (append_assoc (line_of j x) (lines_of ks vs) (line_of k v))

-- one line more
took_more : (ks : List (List ℕ)) (text vs k : List ℕ) (n v m : ℕ) → Took ks text vs n → TookLine k (drop n text) v m → Took (ks ++ (k ∷ [])) text (vs ++ (v ∷ [])) (n + m)
took_more ks text vs k n v m h t = record {
  count = omega (arith, length_push vs v, length_push ks k, h.count);
  small = All-push Small vs v h.small t.small;
  within = omega (arith, length-drop n text, t.within, h.within);
  taken = take-add n m text ∙ ap (λ (x : List ℕ). x ++ take m (drop n text)) h.taken ∙ ap (λ (x : List ℕ). lines_of ks vs ++ x) t.taken ∙ sym (lines_push ks vs k v h.count);
}

-- as the code reads the key and lends the rest of the text
module _ (keys : List (Bor (List ℕ))) (text vs : List ℕ) (i n : ℕ) (room : length vs ≡ length keys) (h : Took (take i (bytes_of keys)) text (take i vs) n) where
  long : length (bytes_of keys) ≡ length keys
  long = length-map keys (λ (r : Bor (List ℕ)). r.now)

  key_is : (d : Bor (List ℕ)) → i < length keys → (get_or keys i d).now ≡ get_or (bytes_of keys) i []
  key_is d l = sym (get_or-map (λ (r : Bor (List ℕ)). r.now) keys i d [] l)

  pub turn_more : (d : Bor (List ℕ)) (v m : ℕ) → i < length keys → TookLine (get_or keys i d).now (take (length text - n) (drop n text)) v m →
      Took (take (i + 1) (bytes_of keys)) text (take (i + 1) (set vs i v)) (n + m)
  turn_more d v m l t =
      let e = long in
      let line = subst (λ k. TookLine k (drop n text) v m) (key_is d l) (subst (λ x. TookLine (get_or keys i d).now x v m) (take_rest text n) t) in
      let one = took_more (take i (bytes_of keys)) text (take i vs) (get_or (bytes_of keys) i []) n v m h line in
      subst (λ x. Took x text (take (i + 1) (set vs i v)) (n + m)) (sym (take_more (bytes_of keys) i [] (omega arith)))
      (subst (λ x. Took (take i (bytes_of keys) ++ (get_or (bytes_of keys) i [] ∷ [])) text x (n + m)) (sym (take_more_set vs i v (omega arith))) one)

  pub turn_stops : (d : Bor (List ℕ)) (f : TextFault) → i < length keys → FailsAt (i + 2) (get_or keys i d).now (take (length text - n) (drop n text)) f → Refuses (bytes_of keys) text f
  turn_stops d f l t = let e = long in record {
    index = i;
    rest = drop n text;
    before = record {
      due = omega arith;
      values = take i vs;
      count = length-take-le i vs (omega arith);
      small = h.small;
      split = sym (take-append-drop n text) ∙ ap (λ (x : List ℕ). x ++ drop n text) h.taken;
    };
    here = subst (λ k. FailsAt (i + 2) k (drop n text) f) (key_is d l) (subst (λ x. FailsAt (i + 2) (get_or keys i d).now x f) (take_rest text n) t);
  }

  pub turn_all : length keys ≤ i → Took (bytes_of keys) text vs n
  turn_all end =
      let e = long in
      subst (λ x. Took (bytes_of keys) text x n) (take_all i vs (omega arith)) (subst (λ x. Took x text (take i vs) n) (take_all i (bytes_of keys) (omega arith)) h)
