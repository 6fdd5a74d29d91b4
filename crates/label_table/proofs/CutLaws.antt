-- A table of labels that is cut back to its first labels.
use Rattle.std.proofs.Common.{◌≡◌, ℕ, zero, suc, ◌+◌, ◌<◌, ◌≤◌, List, [], ◌∷◌, ◌++◌, length, get_or, map, reverse, take, drop, refl, sym, ◌∙◌, ap, subst, arith, take-append-drop, append-nil}
use Rattle.std.proofs.lemmas.List.{length-append, length-map, length-take-le, map-append, get_or-take, take-map}
use Rattle.std.specs.List.{IsDistinct}
use Rattle.std.specs.Map.{keys_of}
use Rattle.calculus.specs.Derivations.{Label, Mark}
use Rattle.label_table.specs.Chains.{AreBackward, chains, chains_from, with_link}
use Rattle.label_table.specs.LabelTable.{AreApart, AreRungs, IsRungFrom, label_table, the_label_link}
use Rattle.label_table.specs.Longer.{IsLonger}
use Rattle.label_table.specs.declared.labels.Link.{Link}
use Rattle.label_table.specs.declared.labels.Rung.{Rung}
use Rattle.label_table.specs.contracts.labels.LinkPartialEq.TheImpl.{eq-value}
use Rattle.label_table.proofs.ChainLaws.{chains_from-append}
use Rattle.label_table.proofs.LabelLaws.{label-length, links-apart}
use Rattle.label_table.proofs.TableLaws.{longer-more, longer-self, longer-taken}

abbrev Item : Type 0
Item = Link × Rung

-- two beginnings of one list that are of one length
one-front : {A : Type 0} (xs ys whole : List A) → IsLonger xs whole → IsLonger ys whole → length xs ≡ length ys → xs ≡ ys
one-front xs ys whole h g n = sym (longer-taken xs whole (length xs) h refl) ∙ longer-taken ys whole (length xs) g n

chains-longer : {A : Type 0} (table : List (List A)) (xs : List (A × ℕ)) → IsLonger table (chains_from table xs)
chains-longer table [] = longer-self table
chains-longer {A} table (x ∷ xs) = longer-more table (with_link table x) (chains_from (with_link table x) xs) ((x.0 ∷ get_or table x.1 []) ∷ [], refl) (chains-longer (with_link table x) xs)

take-longer : (es : List Item) (n : ℕ) → IsLonger (label_table (take n es)) (label_table es)
take-longer es n =
    let link = the_label_link in
    let front = map link (take n es) in
    let split : map link es ≡ front ++ map link (drop n es) = ap (map link) (sym (take-append-drop n es)) ∙ map-append link (take n es) (drop n es) in
    let one : List (List Mark) = [] ∷ [] in
    let long = chains-longer (chains front) (map link (drop n es)) in
    let whole : chains (map link es) ≡ chains front ++ long.0 = ap chains split ∙ chains_from-append one front (map link (drop n es)) ∙ long.1 in
    (map reverse long.0, ap (map reverse) whole ∙ map-append reverse (chains front) long.0)

-- what is left is the table that was
pub cut-back : (es after : List Item) (now new first : List Label) (n : ℕ) → after ≡ take n es → label_table es ≡ now → label_table after ≡ new → IsLonger first now → length first ≡ suc n → new ≡ first
cut-back es after now new first n cut view left long size =
    let more = ap length long.1 ∙ length-append first long.0 in
    let all = label-length es now view in
    let some = label-length (take n es) (label_table (take n es)) refl in
    let kept : length (take n es) ≡ n = length-take-le n es (omega (arith, more, all, size)) in
    sym left ∙ ap label_table cut ∙ one-front (label_table (take n es)) first now (subst (IsLonger (label_table (take n es))) view (take-longer es n)) long (some ∙ omega (arith, kept, size))

backward-take : (m : ℕ) (xs : List (Mark × ℕ)) (n : ℕ) → AreBackward m xs → AreBackward m (take n xs)
backward-take m [] zero h = tt
backward-take m [] (suc n) h = tt
backward-take m (x ∷ xs) zero h = tt
backward-take m (x ∷ xs) (suc n) h = (h.0, backward-take (suc m) xs n h.1)

rung-kept : (labels : List Label) (k front : ℕ) (r : Rung) → front < k → k ≤ length labels → IsRungFrom labels front r → IsRungFrom (take k labels) front r
rung-kept labels k front r lt le h =
    let jump = h.jump in
    let same : get_or (take k labels) front [] ≡ get_or labels front [] = get_or-take k labels front [] lt in
    let before : get_or (take k labels) r.jump [] ≡ get_or labels r.jump [] = get_or-take k labels r.jump [] (omega (arith, jump, lt)) in
    let size : length (take k labels) ≡ k = length-take-le k labels le in
    record {
      place = h.place;
      within = omega (arith, lt, size);
      size = h.size ∙ ap (λ (w : Label). suc (length w)) (sym same);
      jump = h.jump;
      earlier = (h.earlier.0, same ∙ h.earlier.1 ∙ ap (λ w. w ++ h.earlier.0) (sym before));
    }

rungs-take : (labels : List Label) (es : List Item) (m n k : ℕ) → m + length (take n es) ≤ k → k ≤ length labels → AreBackward m (map the_label_link es) → AreRungs labels es → AreRungs (take k labels) (take n es)
rungs-take labels [] m zero k le short back h = tt
rungs-take labels [] m (suc n) k le short back h = tt
rungs-take labels (x ∷ es) m zero k le short back h = tt
rungs-take labels (x ∷ es) m (suc n) k le short back h =
    let lt = back.0 in
    (rung-kept labels k x.0.front x.1 (omega (arith, le, lt)) short h.0, rungs-take labels es (suc m) n k (omega (arith, le)) short back.1 h.1)

-- so are the ways to beginnings
pub cut-kept : (es after : List Item) (n : ℕ) → after ≡ take n es → AreBackward 1 (map the_label_link es) → AreRungs (label_table es) es → IsDistinct eq-value.it (keys_of after)
    → AreBackward 1 (map the_label_link after) × AreApart (map the_label_link after) × AreRungs (label_table after) after
cut-kept es after n cut back rungs distinct =
    let labels = label_table es in
    let left = label_table (take n es) in
    let long = take-longer es n in
    let all = ap length long.1 ∙ length-append left long.0 in
    let some = label-length (take n es) left refl in
    let table : take (length left) labels ≡ left = longer-taken left labels (length left) long refl in
    let kept = rungs-take labels es 1 n (length left) (omega (arith, some)) (omega (arith, all)) back rungs in (
      subst (λ l. AreBackward 1 (map the_label_link l)) (sym cut) (subst (AreBackward 1) (take-map the_label_link n es) (backward-take 1 (map the_label_link es) n back)),
      links-apart after distinct,
      subst (λ l. AreRungs (label_table l) l) (sym cut) (subst (λ t. AreRungs t (take n es)) table kept),
    )
