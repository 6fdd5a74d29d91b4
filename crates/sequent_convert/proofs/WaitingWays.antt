-- Branches that wait stay as they are while the branch at hand grows, and while it is cut back.
use Rattle.std.proofs.Common.{◌≡◌, ℕ, ◌+◌, ◌≤◌, List, [], ◌∷◌, ◌++◌, length, take, refl, ◌∙◌, arith}
use Rattle.std.proofs.lemmas.List.{take-append-le, take-take, take_all, length-take-le, length-append}
use Rattle.conversion_theory.specs.Branches.{Item}
use Rattle.sequent_convert.specs.AheadView.{Ahead}
use Rattle.sequent_convert.specs.State.{Basis, Waiting, way_of, waiting_ways, Nest}

pub nest-more : (m n k j : ℕ) (ws : List Waiting) → m ≤ k → n ≤ j → Nest m n ws → Nest k j ws
nest-more m n k j [] le lf h = tt
nest-more m n k j (w ∷ ws) le lf h = (omega (arith, h.0), omega (arith, h.1), h.2)

module _ (B : Basis) where
  pub waiting-alike : (m n : ℕ) (b c : List Item) (e f : List ℕ) (ws : List Waiting) → Nest m n ws → ((k : ℕ) → k ≤ m → take k b ≡ take k c) → ((k : ℕ) → k ≤ n → take k e ≡ take k f) → waiting_ways B b e ws ≡ waiting_ways B c f ws
  waiting-alike m n b c e f [] h same also = refl
  waiting-alike m n b c e f (w ∷ ws) h same also =
      let nodes = same w.nodes h.0 in
      let turns = also w.done h.1 in
      let rest = waiting-alike w.nodes w.done b c e f ws h.2 (λ k le. same k (omega (arith, le, h.0))) (λ k le. also k (omega (arith, le, h.1))) in
      λ i. way_of B (nodes i ++ w.node ∷ []) (turns i) w.ahead ∷ rest i

  pub waiting-grown : (items added : List Item) (done more : List ℕ) (ws : List Waiting) → Nest (length items) (length done) ws → waiting_ways B (items ++ added) (done ++ more) ws ≡ waiting_ways B items done ws
  waiting-grown items added done more ws h = waiting-alike (length items) (length done) (items ++ added) items (done ++ more) done ws h (λ k le. take-append-le k items added le) (λ k le. take-append-le k done more le)

  cut_alike : (n k : ℕ) (items : List Item) (i : Item) → n ≤ length items → k ≤ n → take k (take n items ++ i ∷ []) ≡ take k items
  cut_alike n k items i le lt =
      let enough : k ≤ length (take n items) = omega (arith, length-take-le n items le, lt) in
      take-append-le k (take n items) (i ∷ []) enough ∙ take-take k n items lt

  pub waiting-cut : (items : List Item) (done : List ℕ) (w : Waiting) (ws : List Waiting) → w.nodes ≤ length items → w.done ≤ length done → Nest w.nodes w.done ws → waiting_ways B (take w.nodes items ++ w.node ∷ []) (take w.done done) ws ≡ waiting_ways B items done ws
  waiting-cut items done w ws le lf h = waiting-alike w.nodes w.done (take w.nodes items ++ w.node ∷ []) items (take w.done done) done ws h (λ k lt. cut_alike w.nodes k items w.node le lt) (λ k lt. take-take k w.done done lt)

  -- a branch that waits from here on begins as this one
  pub begins : (items : List Item) (p q : Item) (done more : List ℕ) (k : ℕ) (a : Ahead) → way_of B (take (length items) (items ++ p ∷ []) ++ q ∷ []) (take (length done + 1) (done ++ k ∷ [])) a ≡ way_of B (items ++ q ∷ []) (done ++ k ∷ []) a
  begins items p q done more k a =
      let nodes = take-append-le (length items) items (p ∷ []) (omega arith) ∙ take_all (length items) items (omega arith) in
      let long = length-append done (k ∷ []) in
      let turns = take_all (length done + 1) (done ++ k ∷ []) (omega (arith, long)) in
      λ i. way_of B (nodes i ++ q ∷ []) (turns i) a
