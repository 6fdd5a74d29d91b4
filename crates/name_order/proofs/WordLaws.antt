-- Different ground values have different words.
use Rattle.std.proofs.Common.{◌≡◌, ℕ, List, [], ◌++◌, arith, refl, sym, ◌∙◌, ap, append_assoc, rules}
use Rattle.plain_laws.proofs.Lists.{first-item}
use base.Stored.{Gv, gnil, gnum, gcons}
use Rattle.calculus.specs.Codes.{values_gv, values_gv-inj}
use Rattle.calculus.specs.Ground.{values_tree}
use Rattle.calculus.specs.Instances.{Turn}
use Rattle.calculus.specs.Lists.{values_tree-inj}
use Rattle.calculus.proofs.EqualityLaws.{Tells}
use Rattle.name_order.specs.Words.{flat, words_of_turn, words_eq}

flat-split : (g h : Gv) (r s : List ℕ) → flat g ++ r ≡ flat h ++ s → (g ≡ h) × (r ≡ s)
flat-split gnil gnil r s e = (refl, cc)
flat-split gnil (gnum m) r s e = let k = first-item 0 1 _ _ e in absurd (omega arith)
flat-split gnil (gcons c d) r s e = let k = first-item 0 2 _ _ e in absurd (omega arith)
flat-split (gnum n) gnil r s e = let k = first-item 1 0 _ _ e in absurd (omega arith)
flat-split (gnum n) (gnum m) r s e = let k : n ≡ m = cc in (ap gnum k, cc)
flat-split (gnum n) (gcons c d) r s e = let k = first-item 1 2 _ _ e in absurd (omega arith)
flat-split (gcons a b) gnil r s e = let k = first-item 2 0 _ _ e in absurd (omega arith)
flat-split (gcons a b) (gnum m) r s e = let k = first-item 2 1 _ _ e in absurd (omega arith)
flat-split (gcons a b) (gcons c d) r s e =
    let tail : (flat a ++ flat b) ++ r ≡ (flat c ++ flat d) ++ s = cc in
    let first = flat-split a c (flat b ++ r) (flat d ++ s) (sym (append_assoc (flat a) (flat b) r) ∙ tail ∙ append_assoc (flat c) (flat d) s) in
    let second = flat-split b d r s first.1 in
    let x = first.0 in
    let y = second.0 in
    (cc, second.1)

pub flat-inj : (g h : Gv) → flat g ≡ flat h → g ≡ h
flat-inj g h e = (flat-split g h [] [] (ap (λ ws. ws ++ []) e)).0

pub words_of_turn-inj : (x y : Turn) → words_of_turn x ≡ words_of_turn y → x ≡ y
words_of_turn-inj x y e =
    let n : x.position ≡ y.position = cc in
    let w : flat (values_gv (values_tree x.values)) ≡ flat (values_gv (values_tree y.values)) = cc in
    let v = values_tree-inj x.values y.values (values_gv-inj _ _ (flat-inj _ _ w)) in
    λ i. record { position = n i; values = v i }

pub words_eq-tells : Tells words_eq
words_eq-tells x y = (λ e. search rules, λ e. search rules)
