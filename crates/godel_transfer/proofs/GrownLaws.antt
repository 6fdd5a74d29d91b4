-- What a step on what is no atom makes of a branch, in the order of the code: names and the count first, then the components.
use Rattle.std.proofs.Common.{◌≡◌, ℕ, suc, ◌+◌, ◌≤◌, Bool, true, false, List, [], ◌∷◌, ◌++◌, length, map, reverse, if◌then◌else◌, refl, sym, ◌∙◌, ap, subst, arith, append_assoc, append-nil}
use Rattle.std.proofs.lemmas.Bool.{false≢true}
use Rattle.std.proofs.lemmas.List.{length-append}
use Rattle.calculus.specs.declared.sign.Sign.{Sign}
use Rattle.calculus.specs.declared.sign.Sign.TheVariants.{T, F}
use Rattle.calculus.specs.Calculus.{is_atom, entry_at}
use Rattle.calculus.specs.Derivations as derivation
use Rattle.calculus.specs.Kinds.{Signed, signed, components, shape_of}
use Rattle.calculus.specs.Syntax.{Formula, atom, neg, conj, disj, imp, all, ex, box, dia}
use Rattle.label_table.specs.Longer.{IsLonger}
use Rattle.godel_transfer.specs.BranchView.{AreWithin, IsKept, Nest, branch_by, branches_of, entry_by, introduced_by, label_then_by, named_by, put_all, put_for, put_one, the_branch, the_character_image, the_eigen_image, waiting, waiting_in}
use Rattle.godel_transfer.specs.ImagesView.{AreImages, images_of}
use Rattle.godel_transfer.specs.Sketch.{grown, label_then}
use Rattle.godel_transfer.specs.Transfer.{CharacterImage, EigenImage, OpenBranch, characters_after, count_before, eigens_after, has_two_steps, numbers_for}
use Rattle.godel_transfer.specs.declared.branches.Branches.{Branches}
use Rattle.godel_transfer.specs.declared.branches.Fork.{Fork}
use Rattle.godel_transfer.proofs.BranchUpdates.{entries-longer, latest-more, nest-longer, nest-more, waiting-longer, waiting-same, within-longer}

-- the branch before its components come
abbrev pub before_grown : OpenBranch → ℕ → Formula → derivation.ModalArg → derivation.TermArg → OpenBranch
before_grown b i a m t = record { sequent = b.sequent; places = b.places; count = count_before b a; characters = characters_after b a m; eigens = eigens_after b i t }

put-all : (b : OpenBranch) (w : derivation.Label) (xs : List Signed) → put_all b w xs ≡ record { sequent = b.sequent ++ map (entry_at w) xs; places = b.places ++ numbers_for (suc b.count) xs; count = b.count + length xs; characters = b.characters; eigens = b.eigens }
put-all b w [] =
    let n : b.count ≡ b.count + 0 = omega arith in
    λ i. record { sequent = sym (append-nil b.sequent) i; places = sym (append-nil b.places) i; count = n i; characters = b.characters; eigens = b.eigens }
put-all b w (x ∷ xs) =
    let n : suc b.count + length xs ≡ b.count + suc (length xs) = omega arith in
    put-all (put_one b w x) w xs ∙ (λ i. record { sequent = append_assoc b.sequent (entry_by w x ∷ []) (map (entry_at w) xs) i; places = append_assoc b.places (suc b.count ∷ []) (numbers_for (suc (suc b.count)) xs) i; count = n i; characters = b.characters; eigens = b.eigens })

abbrev entry_with : Sign → Formula → derivation.Label → derivation.Entry
entry_with s a w = record { sign = s; formula = a; label = w }

one-more : (n : ℕ) → n + 1 ≡ suc n
one-more n = omega arith

both : (b : OpenBranch) (v : derivation.Label) (x y : Signed) → record { sequent = b.sequent ++ entry_at v x ∷ []; places = b.places ++ suc b.count ∷ []; count = b.count + 1; characters = b.characters; eigens = b.eigens } ∷ record { sequent = b.sequent ++ entry_at v y ∷ []; places = b.places ++ suc b.count ∷ []; count = b.count + 1; characters = b.characters; eigens = b.eigens } ∷ [] ≡ put_one b v x ∷ put_one b v y ∷ []
both b v x y = λ j. record { sequent = b.sequent ++ entry_at v x ∷ []; places = b.places ++ suc b.count ∷ []; count = one-more b.count j; characters = b.characters; eigens = b.eigens } ∷ record { sequent = b.sequent ++ entry_at v y ∷ []; places = b.places ++ suc b.count ∷ []; count = one-more b.count j; characters = b.characters; eigens = b.eigens } ∷ []

pub grown-put : (b : OpenBranch) (i p : ℕ) (s : Sign) (a : Formula) (w : derivation.Label) (m : derivation.ModalArg) (t : derivation.TermArg) → is_atom a ≡ false → grown b i p (entry_with s a w) m t ≡ put_for (shape_of s a) (before_grown b i a m t) (label_then b (entry_with s a w) m) (components s a)
grown-put b i p s (atom r ts) w m t h = absurd (false≢true (sym h))
grown-put b i p s (neg a) w m t h = ap (λ (k : OpenBranch). k ∷ []) (sym (put-all (before_grown b i (neg a) m t) (label_then b (entry_with s (neg a) w) m) (components s (neg a))))
grown-put b i p T (conj a c) w m t h = ap (λ (k : OpenBranch). k ∷ []) (sym (put-all (before_grown b i (conj a c) m t) (label_then b (entry_with T (conj a c) w) m) (components T (conj a c))))
grown-put b i p F (disj a c) w m t h = ap (λ (k : OpenBranch). k ∷ []) (sym (put-all (before_grown b i (disj a c) m t) (label_then b (entry_with F (disj a c) w) m) (components F (disj a c))))
grown-put b i p F (imp a c) w m t h = ap (λ (k : OpenBranch). k ∷ []) (sym (put-all (before_grown b i (imp a c) m t) (label_then b (entry_with F (imp a c) w) m) (components F (imp a c))))
grown-put b i p T (all a) w m t h = ap (λ (k : OpenBranch). k ∷ []) (sym (put-all (before_grown b i (all a) m t) (label_then b (entry_with T (all a) w) m) (components T (all a))))
grown-put b i p F (all a) w m t h = ap (λ (k : OpenBranch). k ∷ []) (sym (put-all (before_grown b i (all a) m t) (label_then b (entry_with F (all a) w) m) (components F (all a))))
grown-put b i p T (ex a) w m t h = ap (λ (k : OpenBranch). k ∷ []) (sym (put-all (before_grown b i (ex a) m t) (label_then b (entry_with T (ex a) w) m) (components T (ex a))))
grown-put b i p F (ex a) w m t h = ap (λ (k : OpenBranch). k ∷ []) (sym (put-all (before_grown b i (ex a) m t) (label_then b (entry_with F (ex a) w) m) (components F (ex a))))
grown-put b i p s (box a) w m t h = ap (λ (k : OpenBranch). k ∷ []) (sym (put-all (before_grown b i (box a) m t) (label_then b (entry_with s (box a) w) m) (components s (box a))))
grown-put b i p s (dia a) w m t h = ap (λ (k : OpenBranch). k ∷ []) (sym (put-all (before_grown b i (dia a) m t) (label_then b (entry_with s (dia a) w) m) (components s (dia a))))
grown-put b i p F (conj a c) w m t h = both (before_grown b i (conj a c) m t) (label_then b (entry_with F (conj a c) w) m) (signed F a) (signed F c)
grown-put b i p T (disj a c) w m t h = both (before_grown b i (disj a c) m t) (label_then b (entry_with T (disj a c) w) m) (signed T a) (signed T c)
grown-put b i p T (imp a c) w m t h = both (before_grown b i (imp a c) m t) (label_then b (entry_with T (imp a c) w) m) (signed F a) (signed T c)

-- what the images of the code become
characters-shown : (b : OpenBranch) (cs : List (ℕ × ℕ)) (a : Formula) (m : derivation.ModalArg) → b.characters ≡ map the_character_image cs → is_atom a ≡ false → map the_character_image (introduced_by m b.count ++ cs) ≡ characters_after b a m
characters-shown b cs a derivation.no_modal e h = sym e
characters-shown b cs a (derivation.to v) e h = sym e
characters-shown b cs (atom r ts) (derivation.by_new n) e h = absurd (false≢true (sym h))
characters-shown b cs (neg a) (derivation.by_new n) e h = ap (λ (xs : List CharacterImage). the_character_image (n, b.count) ∷ xs) (sym e)
characters-shown b cs (conj a c) (derivation.by_new n) e h = ap (λ (xs : List CharacterImage). the_character_image (n, b.count) ∷ xs) (sym e)
characters-shown b cs (disj a c) (derivation.by_new n) e h = ap (λ (xs : List CharacterImage). the_character_image (n, b.count) ∷ xs) (sym e)
characters-shown b cs (imp a c) (derivation.by_new n) e h = ap (λ (xs : List CharacterImage). the_character_image (n, b.count) ∷ xs) (sym e)
characters-shown b cs (all a) (derivation.by_new n) e h = ap (λ (xs : List CharacterImage). the_character_image (n, b.count) ∷ xs) (sym e)
characters-shown b cs (ex a) (derivation.by_new n) e h = ap (λ (xs : List CharacterImage). the_character_image (n, b.count) ∷ xs) (sym e)
characters-shown b cs (box a) (derivation.by_new n) e h = ap (λ (xs : List CharacterImage). the_character_image (n, b.count) ∷ xs) (sym e)
characters-shown b cs (dia a) (derivation.by_new n) e h = ap (λ (xs : List CharacterImage). the_character_image (n, b.count) ∷ xs) (sym e)

eigens-shown : (b : OpenBranch) (es : List (ℕ × ℕ)) (i : ℕ) (t : derivation.TermArg) → b.eigens ≡ map the_eigen_image es → map the_eigen_image (named_by t i ++ es) ≡ eigens_after b i t
eigens-shown b es i derivation.no_term e = sym e
eigens-shown b es i (derivation.by_term u) e = sym e
eigens-shown b es i (derivation.by_name n) e = ap (λ (xs : List EigenImage). the_eigen_image (n, i) ∷ xs) (sym e)

pub named-branch : (old new : Branches) (i : ℕ) (a : Formula) (m : derivation.ModalArg) (t : derivation.TermArg) → new.entries.items ≡ old.entries.items → new.labels ≡ old.labels → new.count ≡ (if has_two_steps a then suc old.count else old.count) → images_of new.characters ≡ introduced_by m old.count ++ images_of old.characters → images_of new.eigens ≡ named_by t i ++ images_of old.eigens → is_atom a ≡ false → the_branch new ≡ before_grown (the_branch old) i a m t
named-branch old new i a m t entries labels count characters eigens h =
    let b = the_branch old in
    (λ j. branch_by (labels j) (entries j) (count j) (characters j) (eigens j))
    ∙ (λ j. record { sequent = b.sequent; places = b.places; count = count_before b a; characters = characters-shown b (images_of old.characters) a m refl h j; eigens = eigens-shown b (images_of old.eigens) i t refl j })

pub named-waiting : (old new : Branches) (cs es : List (ℕ × ℕ)) → new.entries.items ≡ old.entries.items → new.labels ≡ old.labels → new.forks.items ≡ old.forks.items → images_of new.characters ≡ cs ++ images_of old.characters → images_of new.eigens ≡ es ++ images_of old.eigens → IsKept old → waiting_in new ≡ waiting_in old
named-waiting old new cs es entries labels forks characters eigens h =
    (λ j. waiting (labels j) (entries j) (characters j) (eigens j) (reverse (forks j)))
    ∙ waiting-same old.labels (length old.entries.items) (length (images_of old.characters)) (length (images_of old.eigens)) old.entries.items old.entries.items (cs ++ images_of old.characters) (images_of old.characters) (es ++ images_of old.eigens) (images_of old.eigens) (λ k l. refl) (λ k l. latest-more k cs (images_of old.characters) l) (λ k l. latest-more k es (images_of old.eigens) l) (reverse old.forks.items) h.nested

pub named-kept : (old new : Branches) (cs es : List (ℕ × ℕ)) → new.entries.items ≡ old.entries.items → new.labels ≡ old.labels → new.forks.items ≡ old.forks.items → images_of new.characters ≡ cs ++ images_of old.characters → images_of new.eigens ≡ es ++ images_of old.eigens → AreImages new.characters → AreImages new.eigens → IsKept old → IsKept new
named-kept old new cs es entries labels forks characters eigens kc ke h =
    let c = ap length characters ∙ length-append cs (images_of old.characters) in
    let e = ap length eigens ∙ length-append es (images_of old.eigens) in
    let n = ap length entries in
    let more = nest-more old.labels (length old.entries.items) (length (images_of old.characters)) (length (images_of old.eigens)) (length new.entries.items) (length (images_of new.characters)) (length (images_of new.eigens)) (omega arith) (omega arith) (omega arith) (reverse old.forks.items) h.nested in
    let moved = subst (λ (fs : List Fork). Nest old.labels (length new.entries.items) (length (images_of new.characters)) (length (images_of new.eigens)) (reverse fs)) (sym forks) more in
    record {
      within = subst (λ (ls : List derivation.Label). AreWithin ls new.entries.items) (sym labels) (subst (AreWithin old.labels) (sym entries) h.within);
      nested = subst (λ (ls : List derivation.Label). Nest ls (length new.entries.items) (length (images_of new.characters)) (length (images_of new.eigens)) (reverse new.forks.items)) (sym labels) moved;
      characters = kc;
      eigens = ke;
    }

pub then-compound : (b : OpenBranch) (s : Sign) (f : Formula) (w : derivation.Label) (m : derivation.ModalArg) → is_atom f ≡ false → label_then_by b.characters (derivation.new_mark b.count ∷ []) w m ≡ label_then b (record { sign = s; formula = f; label = w }) m
then-compound b s f w derivation.no_modal h = refl
then-compound b s f w (derivation.to v) h = refl
then-compound b s (atom r ts) w (derivation.by_new n) h = absurd (false≢true (sym h))
then-compound b s (neg a) w (derivation.by_new n) h = refl
then-compound b s (conj a c) w (derivation.by_new n) h = refl
then-compound b s (disj a c) w (derivation.by_new n) h = refl
then-compound b s (imp a c) w (derivation.by_new n) h = refl
then-compound b s (all a) w (derivation.by_new n) h = refl
then-compound b s (ex a) w (derivation.by_new n) h = refl
then-compound b s (box a) w (derivation.by_new n) h = refl
then-compound b s (dia a) w (derivation.by_new n) h = refl

-- ---- the table of labels grows

abbrev pub with_labels : Branches → List derivation.Label → Branches
with_labels b more = record { is_open = b.is_open; entries = b.entries; count = b.count; characters = b.characters; eigens = b.eigens; forks = b.forks; labels = more }

pub longer-kept : (b : Branches) (more : List derivation.Label) → IsLonger b.labels more → IsKept b → IsKept (with_labels b more)
longer-kept b more long h = record {
  within = within-longer b.labels more b.entries.items long h.within;
  nested = nest-longer b.labels more (length b.entries.items) (length (images_of b.characters)) (length (images_of b.eigens)) (reverse b.forks.items) long h.nested;
  characters = h.characters;
  eigens = h.eigens;
}

pub longer-branch : (b : Branches) (more : List derivation.Label) → IsLonger b.labels more → IsKept b → the_branch (with_labels b more) ≡ the_branch b
longer-branch b more long h = λ i. record { sequent = entries-longer b.labels more b.entries.items long h.within i; places = (the_branch b).places; count = b.count; characters = (the_branch b).characters; eigens = (the_branch b).eigens }

pub longer-waiting : (b : Branches) (more : List derivation.Label) → IsLonger b.labels more → IsKept b → waiting_in (with_labels b more) ≡ waiting_in b
longer-waiting b more long h = waiting-longer b.labels more b.entries.items (images_of b.characters) (images_of b.eigens) (length b.entries.items) (length (images_of b.characters)) (length (images_of b.eigens)) (reverse b.forks.items) long h.within h.nested
