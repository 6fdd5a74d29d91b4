-- What closing a branch and adding to it leave of the branches that wait.
use Rattle.std.proofs.Common.{◌≡◌, ℕ, zero, suc, ◌+◌, ◌-◌, ◌<◌, ◌≤◌, Bool, true, false, List, [], ◌∷◌, ◌++◌, length, get_or, map, take, drop, reverse, if◌then◌else◌, refl, sym, ◌∙◌, ap, subst, arith}
use Rattle.std.proofs.lemmas.Bool.{false≢true}
use Rattle.std.proofs.lemmas.List.{length-append, map-append, reverse-append}
use Rattle.plain_laws.proofs.Places.{take-longer}
use Rattle.calculus.specs.declared.sign.Sign.{Sign}
use Rattle.calculus.specs.Calculus.{is_atom}
use Rattle.calculus.specs.Derivations as derivation
use Rattle.calculus.specs.Kinds.{Signed}
use Rattle.calculus.specs.Syntax.{Formula, atom, neg, conj, disj, imp, all, ex, box, dia}
use Rattle.formula_core.specs.FormulaView.{the_formula}
use Rattle.label_table.specs.Longer.{IsLonger}
use Rattle.label_table.proofs.TableLaws.{longer-at, longer-size}
use Rattle.godel_transfer.specs.BranchView.{AreWithin, IsKept, Nest, branch_by, branches_of, entry_by, label_then_by, put_one, the_branch, the_character_image, the_characters, the_eigen_image, the_entry, waiting, waiting_at, waiting_in}
use Rattle.godel_transfer.specs.ImagesView.{AreImages, images_of, latest}
use Rattle.godel_transfer.specs.Sketch.{atom_after, label_then}
use Rattle.godel_transfer.specs.Transfer.{OpenBranch}
use Rattle.godel_transfer.specs.declared.branches.Branches.{Branches}
use Rattle.godel_transfer.specs.declared.branches.Entry.{Entry}
use Rattle.godel_transfer.specs.declared.branches.Fork.{Fork}

-- ---- lists

take-front : {A : Type 0} (k n : ℕ) (xs ys : List A) → k ≤ n → n ≤ length xs → take k (take n xs ++ ys) ≡ take k xs
take-front zero n xs ys le lt = refl
take-front (suc k) zero xs ys le lt = absurd (omega arith)
take-front (suc k) (suc n) [] ys le lt = absurd (omega arith)
take-front (suc k) (suc n) (x ∷ xs) ys le lt = ap (λ (zs : List _). x ∷ zs) (take-front k n xs ys (omega arith) (omega arith))

none-left : {A : Type 0} (i : ℕ) (xs : List A) → length xs ≡ 0 → drop i xs ≡ xs
none-left zero xs h = refl
none-left (suc i) [] h = refl
none-left (suc i) (x ∷ xs) h = absurd (omega arith)

drop-twice : {A : Type 0} (i j : ℕ) (xs : List A) → drop i (drop j xs) ≡ drop (j + i) xs
drop-twice i zero xs = let e : 0 + i ≡ i = omega arith in ap (λ n. drop n xs) (sym e)
drop-twice i (suc j) [] = none-left i [] refl ∙ sym (none-left (suc j + i) [] refl)
drop-twice i (suc j) (x ∷ xs) = let e : suc j + i ≡ suc (j + i) = omega arith in drop-twice i j xs ∙ ap (λ n. drop n (x ∷ xs)) (sym e)

dropped : {A : Type 0} (n : ℕ) (xs : List A) → length (drop n xs) ≡ length xs - n
dropped zero xs = omega arith
dropped (suc n) [] = omega arith
dropped (suc n) (x ∷ xs) = let e = dropped n xs in omega arith

pub latest-length : {A : Type 0} (n : ℕ) (xs : List A) → n ≤ length xs → length (latest n xs) ≡ n
latest-length n xs le = let e = dropped (length xs - n) xs in omega arith

pub latest-twice : {A : Type 0} (k n : ℕ) (xs : List A) → k ≤ n → n ≤ length xs → latest k (latest n xs) ≡ latest k xs
latest-twice k n xs le lt =
    let size = latest-length n xs lt in
    let e : (length xs - n) + (length (latest n xs) - k) ≡ length xs - k = omega arith in
    drop-twice (length (latest n xs) - k) (length xs - n) xs ∙ ap (λ i. drop i xs) e

pub latest-more : {A : Type 0} (k : ℕ) (ys xs : List A) → k ≤ length xs → latest k (ys ++ xs) ≡ latest k xs
latest-more k [] xs le = refl
latest-more k (y ∷ ys) xs le =
    let size = length-append ys xs in
    let e : length (y ∷ ys ++ xs) - k ≡ suc (length (ys ++ xs) - k) = omega arith in
    ap (λ i. drop i (y ∷ ys ++ xs)) e ∙ latest-more k ys xs le

-- ---- branches that wait

pub waiting-same : (labels : List derivation.Label) (n c e : ℕ) (xs ys : List Entry) (cs ds es gs : List (ℕ × ℕ)) → ((k : ℕ) → k ≤ n → take k xs ≡ take k ys) → ((k : ℕ) → k ≤ c → latest k cs ≡ latest k ds) → ((k : ℕ) → k ≤ e → latest k es ≡ latest k gs) → (fs : List Fork) → Nest labels n c e fs → waiting labels xs cs es fs ≡ waiting labels ys ds gs fs
waiting-same labels n c e xs ys cs ds es gs a b d [] h = refl
waiting-same labels n c e xs ys cs ds es gs a b d (f ∷ fs) h =
    let le = h.0 in
    let lc = h.1 in
    let lg = h.2 in
    let rest = waiting-same labels f.entries f.characters f.eigens xs ys cs ds es gs (λ k l. a k (omega arith)) (λ k l. b k (omega arith)) (λ k l. d k (omega arith)) fs h.4 in
    λ i. branch_by labels (a f.entries h.0 i ++ f.second ∷ []) f.second.place (b f.characters h.1 i) (d f.eigens h.2 i) ∷ rest i

pub nest-more : (labels : List derivation.Label) (n c e m d g : ℕ) → n ≤ m → c ≤ d → e ≤ g → (fs : List Fork) → Nest labels n c e fs → Nest labels m d g fs
nest-more labels n c e m d g ln lc le [] h = tt
nest-more labels n c e m d g ln lc le (f ∷ fs) h =
    let hn = h.0 in
    let hc = h.1 in
    let he = h.2 in
    (omega arith, omega arith, omega arith, h.3, h.4)

within-take : (labels : List derivation.Label) (n : ℕ) (xs : List Entry) → AreWithin labels xs → AreWithin labels (take n xs)
within-take labels zero xs h = tt
within-take labels (suc n) [] h = tt
within-take labels (suc n) (x ∷ xs) h = (h.0, within-take labels n xs h.1)

pub within-append : (labels : List derivation.Label) (xs ys : List Entry) → AreWithin labels xs → AreWithin labels ys → AreWithin labels (xs ++ ys)
within-append labels [] ys h g = g
within-append labels (x ∷ xs) ys h g = (h.0, within-append labels xs ys h.1 g)

-- a branch is closed
pub close-waiting : (labels : List derivation.Label) (xs : List Entry) (cs es : List (ℕ × ℕ)) (f : Fork) (fs : List Fork) → Nest labels (length xs) (length cs) (length es) (f ∷ fs) → branch_by labels (take f.entries xs ++ f.second ∷ []) f.second.place (latest f.characters cs) (latest f.eigens es) ∷ waiting labels (take f.entries xs ++ f.second ∷ []) (latest f.characters cs) (latest f.eigens es) fs ≡ waiting labels xs cs es (f ∷ fs)
close-waiting labels xs cs es f fs h =
    ap (λ (bs : List _). waiting_at labels xs cs es f ∷ bs)
    (waiting-same labels f.entries f.characters f.eigens (take f.entries xs ++ f.second ∷ []) xs (latest f.characters cs) cs (latest f.eigens es) es
    (λ k l. take-front k f.entries xs (f.second ∷ []) l h.0) (λ k l. latest-twice k f.characters cs l h.1) (λ k l. latest-twice k f.eigens es l h.2) fs h.4)

pub close-within : (labels : List derivation.Label) (xs : List Entry) (f : Fork) → AreWithin labels xs → f.second.label < length labels → AreWithin labels (take f.entries xs ++ f.second ∷ [])
close-within labels xs f h lt = within-append labels (take f.entries xs) (f.second ∷ []) (within-take labels f.entries xs h) (lt, tt)

pub close-nest : (labels : List derivation.Label) (xs : List Entry) (cs es : List (ℕ × ℕ)) (f : Fork) (fs : List Fork) → Nest labels (length xs) (length cs) (length es) (f ∷ fs) → Nest labels (length (take f.entries xs ++ f.second ∷ [])) (length (latest f.characters cs)) (length (latest f.eigens es)) fs
close-nest labels xs cs es f fs h =
    let le = h.0 in
    let both = length-append (take f.entries xs) (f.second ∷ []) in
    let front = taken f.entries xs le in
    let c = latest-length f.characters cs h.1 in
    let e = latest-length f.eigens es h.2 in
    nest-more labels f.entries f.characters f.eigens (length (take f.entries xs ++ f.second ∷ [])) (length (latest f.characters cs)) (length (latest f.eigens es)) (omega arith) (omega arith) (omega arith) fs h.4
  where
    taken : (n : ℕ) (xs : List Entry) → n ≤ length xs → length (take n xs) ≡ n
    taken zero xs le = refl
    taken (suc n) [] le = absurd (omega arith)
    taken (suc n) (x ∷ xs) le = ap suc (taken n xs (omega arith))

-- what the code makes of its branches where it closes one
pub closed-forks : (old new : List Fork) (f : Fork) → old ≡ new ++ f ∷ [] → reverse old ≡ f ∷ reverse new
closed-forks old new f e = ap reverse e ∙ reverse-append new (f ∷ [])

pub closed-shown : (old new : Branches) (f : Fork) → old.is_open ≡ true → new.is_open ≡ old.is_open → old.forks.items ≡ new.forks.items ++ f ∷ [] → new.entries.items ≡ take f.entries old.entries.items ++ f.second ∷ [] → new.count ≡ f.second.place → images_of new.characters ≡ latest f.characters (images_of old.characters) → images_of new.eigens ≡ latest f.eigens (images_of old.eigens) → new.labels ≡ old.labels → IsKept old → branches_of new ≡ waiting_in old
closed-shown old new f is_open same forks entries count characters eigens labels h =
    let fs = reverse new.forks.items in
    let turned = closed-forks old.forks.items new.forks.items f forks in
    let nested = subst (Nest old.labels (length old.entries.items) (length (images_of old.characters)) (length (images_of old.eigens))) turned h.nested in
    let still : new.is_open ≡ true = same ∙ is_open in
    (λ i. if still i then the_branch new ∷ waiting_in new else [])
    ∙ (λ i. branch_by (labels i) (entries i) (count i) (characters i) (eigens i) ∷ waiting (labels i) (entries i) (characters i) (eigens i) fs)
    ∙ close-waiting old.labels old.entries.items (images_of old.characters) (images_of old.eigens) f fs nested
    ∙ (λ i. waiting old.labels old.entries.items (images_of old.characters) (images_of old.eigens) (sym turned i))

pub closed-kept : (old new : Branches) (f : Fork) → old.forks.items ≡ new.forks.items ++ f ∷ [] → new.entries.items ≡ take f.entries old.entries.items ++ f.second ∷ [] → images_of new.characters ≡ latest f.characters (images_of old.characters) → images_of new.eigens ≡ latest f.eigens (images_of old.eigens) → new.labels ≡ old.labels → AreImages new.characters → AreImages new.eigens → IsKept old → IsKept new
closed-kept old new f forks entries characters eigens labels cs es h =
    let fs = reverse new.forks.items in
    let turned = closed-forks old.forks.items new.forks.items f forks in
    let nested = subst (Nest old.labels (length old.entries.items) (length (images_of old.characters)) (length (images_of old.eigens))) turned h.nested in
    let within = close-within old.labels old.entries.items f h.within nested.3 in
    let nest = close-nest old.labels old.entries.items (images_of old.characters) (images_of old.eigens) f fs nested in
    record {
      within = subst (λ (xs : List Entry). AreWithin new.labels xs) (sym entries) (subst (λ (ls : List derivation.Label). AreWithin ls (take f.entries old.entries.items ++ f.second ∷ [])) (sym labels) within);
      nested = moved (sym labels) (sym entries) (sym characters) (sym eigens) fs nest;
      characters = cs;
      eigens = es;
    }
  where
    moved : {ls ms : List derivation.Label} {xs ys : List Entry} {us vs cs ds : List (ℕ × ℕ)} → ls ≡ ms → xs ≡ ys → us ≡ vs → cs ≡ ds → (fs : List Fork) → Nest ls (length xs) (length us) (length cs) fs → Nest ms (length ys) (length vs) (length ds) fs
    moved {ls} {ms} {xs} {ys} {us} {vs} {cs} {ds} a b c d fs h =
        let first = subst (λ n. Nest ls (length xs) (length us) n fs) (ap length d) h in
        let second = subst (λ n. Nest ls (length xs) n (length ds) fs) (ap length c) first in
        let third = subst (λ n. Nest ls n (length vs) (length ds) fs) (ap length b) second in
        subst (λ l. Nest l (length ys) (length vs) (length ds) fs) a third

-- ---- the table of labels grows

pub entry-longer : (labels more : List derivation.Label) (x : Entry) → IsLonger labels more → x.label < length labels → the_entry more x ≡ the_entry labels x
entry-longer labels more x long lt = ap (λ (w : derivation.Label). record { sign = x.sign; formula = the_formula x.formula.now; label = w }) (longer-at labels more x.label [] long lt)

pub entries-longer : (labels more : List derivation.Label) (xs : List Entry) → IsLonger labels more → AreWithin labels xs → map (the_entry more) xs ≡ map (the_entry labels) xs
entries-longer labels more [] long h = refl
entries-longer labels more (x ∷ xs) long h = λ i. entry-longer labels more x long h.0 i ∷ entries-longer labels more xs long h.1 i

pub within-longer : (labels more : List derivation.Label) (xs : List Entry) → IsLonger labels more → AreWithin labels xs → AreWithin more xs
within-longer labels more [] long h = tt
within-longer labels more (x ∷ xs) long h = let size = longer-size labels more long in let lt = h.0 in (omega arith, within-longer labels more xs long h.1)

pub nest-longer : (labels more : List derivation.Label) (n c e : ℕ) (fs : List Fork) → IsLonger labels more → Nest labels n c e fs → Nest more n c e fs
nest-longer labels more n c e [] long h = tt
nest-longer labels more n c e (f ∷ fs) long h = let size = longer-size labels more long in let lt = h.3 in (h.0, h.1, h.2, omega arith, nest-longer labels more f.entries f.characters f.eigens fs long h.4)

pub waiting-longer : (labels more : List derivation.Label) (xs : List Entry) (cs es : List (ℕ × ℕ)) (n c e : ℕ) (fs : List Fork) → IsLonger labels more → AreWithin labels xs → Nest labels n c e fs → waiting more xs cs es fs ≡ waiting labels xs cs es fs
waiting-longer labels more xs cs es n c e [] long h g = refl
waiting-longer labels more xs cs es n c e (f ∷ fs) long h g =
    let front = entries-longer labels more (take f.entries xs ++ f.second ∷ []) long (close-within labels xs f h g.3) in
    let rest = waiting-longer labels more xs cs es f.entries f.characters f.eigens fs long h g.4 in
    λ i. record { sequent = front i; places = map (λ (x : Entry). x.place) (take f.entries xs ++ f.second ∷ []); count = f.second.place; characters = map the_character_image (latest f.characters cs); eigens = map the_eigen_image (latest f.eigens es) } ∷ rest i

-- ---- a step on an atom

then-atom : (b : OpenBranch) (s : Sign) (f : Formula) (w : derivation.Label) (m : derivation.ModalArg) → is_atom f ≡ true → label_then_by b.characters [] w m ≡ label_then b (record { sign = s; formula = f; label = w }) m
then-atom b s f w derivation.no_modal h = refl
then-atom b s f w (derivation.to v) h = refl
then-atom b s (atom r ts) w (derivation.by_new n) h = refl
then-atom b s (neg a) w (derivation.by_new n) h = absurd (false≢true h)
then-atom b s (conj a c) w (derivation.by_new n) h = absurd (false≢true h)
then-atom b s (disj a c) w (derivation.by_new n) h = absurd (false≢true h)
then-atom b s (imp a c) w (derivation.by_new n) h = absurd (false≢true h)
then-atom b s (all a) w (derivation.by_new n) h = absurd (false≢true h)
then-atom b s (ex a) w (derivation.by_new n) h = absurd (false≢true h)
then-atom b s (box a) w (derivation.by_new n) h = absurd (false≢true h)
then-atom b s (dia a) w (derivation.by_new n) h = absurd (false≢true h)

-- an entry that stands in the same place of S4 as the used one
pub passed-shown : (old new : Branches) (used x : Entry) (m : derivation.ModalArg) → old.is_open ≡ true → new.is_open ≡ old.is_open → new.forks.items ≡ old.forks.items → new.entries.items ≡ old.entries.items ++ x ∷ [] → new.count ≡ old.count → images_of new.characters ≡ images_of old.characters → images_of new.eigens ≡ images_of old.eigens → IsLonger old.labels new.labels → x.sign ≡ used.sign → the_formula x.formula.now ≡ the_formula used.formula.now → x.place ≡ used.place → get_or new.labels x.label [] ≡ label_then_by (the_characters old.characters) [] (get_or old.labels used.label []) m → is_atom (the_formula used.formula.now) ≡ true → IsKept old → branches_of new ≡ atom_after (the_branch old) used.place (the_entry old.labels used) m ∷ waiting_in old
passed-shown old new used x m is_open same forks entries count characters eigens long sg fm pl at atomic h =
    let cs = images_of old.characters in
    let es = images_of old.eigens in
    let fs = reverse old.forks.items in
    let still : new.is_open ≡ true = same ∙ is_open in
    let last : the_entry new.labels x ≡ record { sign = used.sign; formula = the_formula used.formula.now; label = label_then (the_branch old) (the_entry old.labels used) m } = λ i. record { sign = sg i; formula = fm i; label = (at ∙ then-atom (the_branch old) used.sign (the_formula used.formula.now) (get_or old.labels used.label []) m atomic) i } in
    let sequent = map-append (the_entry new.labels) old.entries.items (x ∷ []) ∙ (λ i. entries-longer old.labels new.labels old.entries.items long h.within i ++ last i ∷ []) in
    let places = map-append (λ (y : Entry). y.place) old.entries.items (x ∷ []) ∙ (λ i. map (λ (y : Entry). y.place) old.entries.items ++ pl i ∷ []) in
    let rest = (λ i. waiting new.labels (entries i) (characters i) (eigens i) (reverse (forks i)))
    ∙ waiting-same new.labels (length old.entries.items) (length cs) (length es) (old.entries.items ++ x ∷ []) old.entries.items cs cs es es (λ k l. take-longer k old.entries.items (x ∷ []) l) (λ k l. refl) (λ k l. refl) fs (nest-longer old.labels new.labels (length old.entries.items) (length cs) (length es) fs long h.nested)
    ∙ waiting-longer old.labels new.labels old.entries.items cs es (length old.entries.items) (length cs) (length es) fs long h.within h.nested in
    (λ i. if still i then the_branch new ∷ waiting_in new else [])
    ∙ (λ i. branch_by new.labels (entries i) (count i) (characters i) (eigens i) ∷ waiting_in new)
    ∙ (λ i. record { sequent = sequent i; places = places i; count = old.count; characters = map the_character_image cs; eigens = map the_eigen_image es } ∷ rest i)

pub passed-kept : (old new : Branches) (x : Entry) → new.forks.items ≡ old.forks.items → new.entries.items ≡ old.entries.items ++ x ∷ [] → images_of new.characters ≡ images_of old.characters → images_of new.eigens ≡ images_of old.eigens → IsLonger old.labels new.labels → x.label < length new.labels → AreImages new.characters → AreImages new.eigens → IsKept old → IsKept new
passed-kept old new x forks entries characters eigens long lt cs es h =
    let size = length-append old.entries.items (x ∷ []) ∙ refl in
    let grown = ap length entries in
    let c = ap length characters in
    let e = ap length eigens in
    let nested = nest-longer old.labels new.labels (length old.entries.items) (length (images_of old.characters)) (length (images_of old.eigens)) (reverse old.forks.items) long h.nested in
    let more = nest-more new.labels (length old.entries.items) (length (images_of old.characters)) (length (images_of old.eigens)) (length new.entries.items) (length (images_of new.characters)) (length (images_of new.eigens)) (omega arith) (omega arith) (omega arith) (reverse old.forks.items) nested in
    record {
      within = subst (AreWithin new.labels) (sym entries) (within-append new.labels old.entries.items (x ∷ []) (within-longer old.labels new.labels old.entries.items long h.within) (lt, tt));
      nested = subst (λ (fs : List Fork). Nest new.labels (length new.entries.items) (length (images_of new.characters)) (length (images_of new.eigens)) (reverse fs)) (sym forks) more;
      characters = cs;
      eigens = es;
    }

-- ---- a component more

pub added-shown : (old new : Branches) (x : Entry) (part : Signed) → old.is_open ≡ true → new.is_open ≡ old.is_open → new.forks.items ≡ old.forks.items → new.entries.items ≡ old.entries.items ++ x ∷ [] → new.count ≡ suc old.count → images_of new.characters ≡ images_of old.characters → images_of new.eigens ≡ images_of old.eigens → new.labels ≡ old.labels → the_entry old.labels x ≡ entry_by (get_or old.labels x.label []) part → x.place ≡ suc old.count → IsKept old → branches_of new ≡ put_one (the_branch old) (get_or old.labels x.label []) part ∷ waiting_in old
added-shown old new x part is_open same forks entries count characters eigens labels last pl h =
    let cs = images_of old.characters in
    let es = images_of old.eigens in
    let fs = reverse old.forks.items in
    let still : new.is_open ≡ true = same ∙ is_open in
    let sequent = map-append (the_entry old.labels) old.entries.items (x ∷ []) ∙ (λ i. map (the_entry old.labels) old.entries.items ++ last i ∷ []) in
    let places = map-append (λ (y : Entry). y.place) old.entries.items (x ∷ []) ∙ (λ i. map (λ (y : Entry). y.place) old.entries.items ++ pl i ∷ []) in
    let rest = (λ i. waiting (labels i) (entries i) (characters i) (eigens i) (reverse (forks i)))
    ∙ waiting-same old.labels (length old.entries.items) (length cs) (length es) (old.entries.items ++ x ∷ []) old.entries.items cs cs es es (λ k l. take-longer k old.entries.items (x ∷ []) l) (λ k l. refl) (λ k l. refl) fs h.nested in
    (λ i. if still i then the_branch new ∷ waiting_in new else [])
    ∙ (λ i. branch_by (labels i) (entries i) (count i) (characters i) (eigens i) ∷ waiting_in new)
    ∙ (λ i. record { sequent = sequent i; places = places i; count = suc old.count; characters = map the_character_image cs; eigens = map the_eigen_image es } ∷ rest i)
