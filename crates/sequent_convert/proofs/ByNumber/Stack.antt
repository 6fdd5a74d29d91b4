-- The branches that wait, the last one first.
use Rattle.std.proofs.Common.{◌≡◌, List, [], ◌∷◌, ◌++◌, map, length, reverse, append-nil, refl, sym, ◌∙◌, ap, arith}
use Rattle.std.proofs.lemmas.List.{reverse-append}
use Rattle.sequent_convert.specs.ByNumber.RunView.{the_waiting}
use Rattle.sequent_convert.specs.declared.run.Waiting.{Waiting}
use Rattle.sequent_convert.specs.declared.source.Source.{Source}

pub stack-push : (s : Source) (ws us : List Waiting) (w : Waiting) → ws ≡ us ++ w ∷ [] → map (the_waiting s) (reverse ws) ≡ the_waiting s w ∷ map (the_waiting s) (reverse us)
stack-push s ws us w e = ap (λ xs. map (the_waiting s) (reverse xs)) e ∙ ap (map (the_waiting s)) (reverse-append us (w ∷ []))

pub stack-none : (s : Source) (ws us : List Waiting) → ws ≡ us ++ [] → length ws ≡ 0 → (map (the_waiting s) (reverse ws) ≡ []) × (map (the_waiting s) (reverse us) ≡ [])
stack-none s [] us e n = (refl, ap (λ xs. map (the_waiting s) (reverse xs)) (sym (e ∙ append-nil us)))
stack-none s (w ∷ ws) us e n = absurd (omega (arith, n))
