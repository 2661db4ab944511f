-- A conversation over a list of lines, one line more.
use Rattle.std.proofs.Common.{◌≡◌, ℕ, ◌+◌, ◌<◌, ◌≤◌, List, [], ◌∷◌, ◌++◌, map, length, get_or, take, drop, sym, ap, ◌∙◌, Bor}
use Rattle.std.proofs.lemmas.List.{map_push, map_more, map-append, take-append-drop, take_all}
use Rattle.handshake.specs.Law.{Exchange, spoken}

module _ (lines : List (Bor (List ℕ))) (i : ℕ) (xs : List Exchange) (same : map spoken xs ≡ map (λ x. x.now) (take i lines)) where
  pub one_more : (d : Bor (List ℕ)) (x : Exchange) → i < length lines → x.line ≡ (get_or lines i d).now → map spoken (xs ++ (x ∷ [])) ≡ map (λ x. x.now) (take (i + 1) lines)
  one_more d x h e =
      let more = map_more (λ x. x.now) lines i d h in
      let push = map_push spoken xs x in
      cc

  pub all_of_them : length lines ≤ i → map spoken xs ≡ map (λ x. x.now) lines
  all_of_them h = same ∙ ap (λ (ls : List (Bor (List ℕ))). map (λ x. x.now) ls) (take_all i lines h)

  pub and_the_rest : map (λ x. x.now) lines ≡ map spoken xs ++ map (λ x. x.now) (drop i lines)
  and_the_rest =
      ap (λ (ls : List (Bor (List ℕ))). map (λ x. x.now) ls) (sym (take-append-drop i lines))
      ∙ map-append (λ x. x.now) (take i lines) (drop i lines)
      ∙ ap (λ (ls : List (List ℕ)). ls ++ map (λ x. x.now) (drop i lines)) (sym same)
