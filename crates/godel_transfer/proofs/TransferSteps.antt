-- Each intuitionistic step that applies becomes steps that apply in S4 and lead to branches that stand for its children.
use Rattle.std.proofs.Common.{◌≡◌, ℕ, suc, ◌+◌, ◌<◌, ◌≤◌, List, [], ◌∷◌, ◌++◌, map, length, true, false, ◌&&◌, refl, sym, ◌∙◌, ap, subst, Some, Ok, arith, append_assoc, append-nil}
use Rattle.std.specs.List.{AllByRecursion}
use Rattle.std.proofs.lemmas.Bool.{false≢true, and_parts, not_from_false}
use Rattle.plain_laws.proofs.Lists.{map-length}
use Rattle.calculus.specs.declared.sign.Sign.{Sign}
use Rattle.calculus.specs.declared.sign.Sign.TheVariants.{T, F}
use Rattle.calculus.specs.declared.setting.Logic.TheVariants.{Intuitionistic, S4}
use Rattle.calculus.specs.declared.kind.Shape.{Shape}
use Rattle.calculus.specs.declared.kind.Shape.TheVariants.{Alpha, Beta, Gamma, Delta, Literal}
use Rattle.calculus.specs.Syntax.{Symbol, Terms, Formula, atom, neg, conj, disj, imp, all, ex, box, dia}
use Rattle.calculus.specs.Equality.{sign_eq, formula_eq, list_eq}
use Rattle.calculus.specs.Kinds.{Signed, signed, other, shape_of, modal_of, nu_if_given, nu_if_shown, components}
use Rattle.calculus.specs.Labels.{is_prefix}
use Rattle.calculus.specs.Substitution.{any_leaf_in}
use Rattle.calculus.specs.Derivations.{new_mark, Label, character_eq, Entry, Sequent, EigenName, Names, ModalArg, no_modal, to, by_new, TermArg, no_term, by_term, by_name, Step, apply_to, close}
use Rattle.calculus.specs.Calculus.{Children, closed, one, two, holds_character, is_eigen, modal_fits, term_fits, has_step, is_known, label_after, is_reachable, character_is_new, eigen_is_new, home_is, term_allowed, entry_at, with_argument, with_components, children_of, conditions_of_use, is_atom, connects, entry_of, apply, Closes, leaf, single, fork}
use Rattle.calculus.specs.Translation.{translation_of, translated_problem}
use Rattle.godel_transfer.specs.Transfer.{CharacterImage, EigenImage, mark_image, label_image, formula_image, OpenBranch, numbers_for, modal_image, argument_image, new_character, characters_after, eigens_after, use_steps, axiom_steps, branches_by, names_with}
use Rattle.calculus.proofs.EqualityLaws.{sign_eq-tells, formula_eq-tells, list_eq-tells, character_eq-tells}
use Rattle.godel_transfer.proofs.ImageLaws.{prefix-image, prefix-on, prefix-more, label-append, label-new, mark-new}
use Rattle.godel_transfer.proofs.TransferState.{is_late, new-character, AreEarly, MarksEarly, EigensEarly, LabelStands, entry_with, EntryStands, EachStands, EigenFits, Fits, early-later, early-append, entry-left, entry-next, stands-left, stands-append, label-early, formula-early, eigens-later}
use Rattle.godel_transfer.proofs.TransferParts.{intuitionistic, met-first, fits-image, reachable-image, new-image, eigen-new-image, IsListed, known-image, home-image, allowed-image, label-image_after, image_of, argument-image, length-more, child-fits, stands-after, fit-marks, fit-after, marks-after, eigens-after}

-- the branch past a step, with the entries xs more behind k entries in S4
abbrev pub grown : {A : Type 0} → OpenBranch → ℕ → List CharacterImage → List EigenImage → List A → Sequent → OpenBranch
grown b k cs es xs s = record { sequent = s; places = b.places ++ numbers_for (suc k) xs; count = k + length xs; characters = cs; eigens = es }

abbrev pub branches_with : OpenBranch → Entry → ℕ → List CharacterImage → List EigenImage → List Signed → Children → List OpenBranch
branches_with b e k cs es xs closed = []
branches_with b e k cs es xs (one s) = grown b k cs es xs s ∷ []
branches_with b e k cs es xs (two s u) = grown b k cs es (e ∷ []) s ∷ grown b k cs es (e ∷ []) u ∷ []

pub label-is : (s : Sign) (a : Formula) → is_atom a ≡ false → (u w : Label) → LabelStands s a u w → u ≡ w
label-is T (atom r ts) h u w e = absurd (false≢true (sym h))
label-is T (neg a) h u w e = e
label-is T (conj a c) h u w e = e
label-is T (disj a c) h u w e = e
label-is T (imp a c) h u w e = e
label-is T (all a) h u w e = e
label-is T (ex a) h u w e = e
label-is T (box a) h u w e = e
label-is T (dia a) h u w e = e
label-is F a h u w e = e

-- where the formula is no atom, the image of its entry
stands-there : (b : OpenBranch) (target : Sequent) (s : Sign) (a : Formula) (w : Label) (p : ℕ) → is_atom a ≡ false → EntryStands b.characters b.eigens target (entry_with s a w) p → entry_of target p ≡ Some (entry_with s (translation_of (formula_image b.eigens a)) (label_image b.characters w))
stands-there b target s a w p h (u, e, same) = subst (λ (l : Label). entry_of target p ≡ Some (entry_with s (translation_of (formula_image b.eigens a)) l)) (label-is s a h u (label_image b.characters w) same) e

module _ (phi : Formula) (symbols : List Symbol) (names : Names) (E : List EigenName) where
  -- the steps lead to the branches, which stand for the children
  pub record Single (target : Sequent) (i : ℕ) (xs : List Step) (bs : List OpenBranch) (t : Sequent) : Type 0 where
    pub branch : OpenBranch
    pub sequent : branch.sequent ≡ t
    pub only : bs ≡ branch ∷ []
    pub goal : Sequent
    pub fits : Fits names (names_with E) branch (suc i) goal
    pub closes : (ys rest : List Step) → Closes (translated_problem (intuitionistic phi symbols)) (names_with E) goal ys rest → Closes (translated_problem (intuitionistic phi symbols)) (names_with E) target (xs ++ ys) rest

  pub record Double (target : Sequent) (i : ℕ) (xs : List Step) (bs : List OpenBranch) (t u : Sequent) : Type 0 where
    pub left : OpenBranch
    pub left_sequent : left.sequent ≡ t
    pub right : OpenBranch
    pub right_sequent : right.sequent ≡ u
    pub both : bs ≡ left ∷ right ∷ []
    pub left_goal : Sequent
    pub left_fits : Fits names (names_with E) left (suc i) left_goal
    pub right_goal : Sequent
    pub right_fits : Fits names (names_with E) right (suc i) right_goal
    pub closes : (ys zs rest : List Step) → Closes (translated_problem (intuitionistic phi symbols)) (names_with E) left_goal ys zs → Closes (translated_problem (intuitionistic phi symbols)) (names_with E) right_goal zs rest → Closes (translated_problem (intuitionistic phi symbols)) (names_with E) target (xs ++ ys) rest

  abbrev pub Carried : Sequent → ℕ → List Step → List OpenBranch → Children → Type 0
  Carried target i xs bs closed = (bs ≡ []) × ((rest : List Step) → Closes (translated_problem (intuitionistic phi symbols)) (names_with E) target (xs ++ rest) rest)
  Carried target i xs bs (one t) = Single target i xs bs t
  Carried target i xs bs (two t u) = Double target i xs bs t u

  -- ---- steps in S4

  box-applies : (target : Sequent) (q : ℕ) (s : Sign) (X : Formula) (w : Label) (m : ModalArg) → entry_of target q ≡ Some (entry_with s (box X) w) → modal_fits (nu_if_given s) m ≡ true → is_reachable S4 w m ≡ true → character_is_new (names_with E) target m ≡ true → apply (translated_problem (intuitionistic phi symbols)) (names_with E) target (apply_to q m no_term) ≡ Ok (one (target ++ entry_at (label_after S4 w m) (signed s X) ∷ []))
  box-applies target q T X w m e f r n = rw e (met-first (conditions_of_use (translated_problem (intuitionistic phi symbols)) (names_with E) target (entry_with T (box X) w) m no_term) (children_of S4 target (entry_with T (box X) w) m no_term) (rw f refl, (refl, (r, (rw n refl, (refl, (refl, tt)))))))
  box-applies target q F X w m e f r n = rw e (met-first (conditions_of_use (translated_problem (intuitionistic phi symbols)) (names_with E) target (entry_with F (box X) w) m no_term) (children_of S4 target (entry_with F (box X) w) m no_term) (rw f refl, (refl, (r, (rw n refl, (refl, (refl, tt)))))))

  dia-applies : (target : Sequent) (q : ℕ) (s : Sign) (X : Formula) (w : Label) (m : ModalArg) → entry_of target q ≡ Some (entry_with s (dia X) w) → modal_fits (nu_if_shown s) m ≡ true → is_reachable S4 w m ≡ true → character_is_new (names_with E) target m ≡ true → apply (translated_problem (intuitionistic phi symbols)) (names_with E) target (apply_to q m no_term) ≡ Ok (one (target ++ entry_at (label_after S4 w m) (signed s X) ∷ []))
  dia-applies target q T X w m e f r n = rw e (met-first (conditions_of_use (translated_problem (intuitionistic phi symbols)) (names_with E) target (entry_with T (dia X) w) m no_term) (children_of S4 target (entry_with T (dia X) w) m no_term) (rw f refl, (refl, (r, (rw n refl, (refl, (refl, tt)))))))
  dia-applies target q F X w m e f r n = rw e (met-first (conditions_of_use (translated_problem (intuitionistic phi symbols)) (names_with E) target (entry_with F (dia X) w) m no_term) (children_of S4 target (entry_with F (dia X) w) m no_term) (rw f refl, (refl, (r, (rw n refl, (refl, (refl, tt)))))))

  plain-applies : (target : Sequent) (q : ℕ) (s : Sign) (a : Formula) (w : Label) (t : TermArg) → entry_of target q ≡ Some (entry_with s a w) → (modal_fits (modal_of S4 s a) no_modal && term_fits (shape_of s a) t && has_step (modal_of S4 s a) (shape_of s a)) ≡ true → is_known (names_with E) t ≡ true → eigen_is_new target t ≡ true → home_is (names_with E) w t ≡ true → term_allowed (translated_problem (intuitionistic phi symbols)) (names_with E) w t ≡ true → apply (translated_problem (intuitionistic phi symbols)) (names_with E) target (apply_to q no_modal t) ≡ Ok (children_of S4 target (entry_with s a w) no_modal t)
  plain-applies target q s a w t e f known fresh home allowed = rw e (met-first (conditions_of_use (translated_problem (intuitionistic phi symbols)) (names_with E) target (entry_with s a w) no_modal t) (children_of S4 target (entry_with s a w) no_modal t) (f, (known, (refl, (fresh, (home, (allowed, tt)))))))

  -- ---- the components come

  -- what is kept past the step, once the box is stepped
  record Ready (b : OpenBranch) (i : ℕ) (cs : List CharacterImage) (es : List EigenImage) (v : Label) (target : Sequent) (k : ℕ) : Type 0 where
    counted : length target ≡ k
    stands : EachStands cs es target b.sequent b.places
    fit : (y : Signed) (ys : List Signed) → AllByRecursion (EigenFits names (names_with E) cs (b.sequent ++ map (entry_at v) (y ∷ ys))) es
    eigens : (d : ℕ) → k < d → EigensEarly (names_with E) (suc i) d es
    marks : (d : ℕ) → k < d → MarksEarly d cs
    early : AreEarly (names_with E) (suc i) k target

  grown-fits : {A : Type 0} (b : OpenBranch) (i : ℕ) (cs : List CharacterImage) (es : List EigenImage) (v : Label) (target : Sequent) (k : ℕ) → Ready b i cs es v target k → (y : Signed) (ys : List Signed) (z : A) (zs : List A) → length (z ∷ zs) ≡ length (y ∷ ys) → Fits names (names_with E) (grown b k cs es (z ∷ zs) (b.sequent ++ map (entry_at v) (y ∷ ys))) (suc i) (target ++ map (entry_at (label_image cs v)) (map (image_of es) (y ∷ ys)))
  grown-fits b i cs es v target k r y ys z zs same =
      let less : k < k + length (z ∷ zs) = omega arith in
      child-fits names (names_with E) (suc i) cs es b.sequent b.places v (y ∷ ys) (z ∷ zs) target k r.counted same r.stands (r.fit y ys) (r.eigens (k + length (z ∷ zs)) less) (r.marks (k + length (z ∷ zs)) less) (early-later (names_with E) (suc i) (suc i) k (k + length (z ∷ zs)) (omega arith) (omega arith) target r.early)

  abbrev Leads : Sequent → Sequent → List Step → Type 0
  Leads from goal xs = (ys rest : List Step) → Closes (translated_problem (intuitionistic phi symbols)) (names_with E) goal ys rest → Closes (translated_problem (intuitionistic phi symbols)) (names_with E) from (xs ++ ys) rest

  finish-one : (b : OpenBranch) (e : Entry) (i : ℕ) (cs : List CharacterImage) (es : List EigenImage) (v : Label) (t : TermArg) (from target : Sequent) (k : ℕ) (pre : List Step) (z : Step) → Leads from target pre → Ready b i cs es v target k → (x : Signed) (xs : List Signed) → apply (translated_problem (intuitionistic phi symbols)) (names_with E) target z ≡ Ok (one (target ++ map (entry_at (label_image cs v)) (map (image_of es) (map (with_argument t) (x ∷ xs))))) → Single from i (pre ++ z ∷ []) (grown b k cs es (x ∷ xs) (b.sequent ++ map (entry_at v) (map (with_argument t) (x ∷ xs))) ∷ []) (b.sequent ++ map (entry_at v) (map (with_argument t) (x ∷ xs)))
  finish-one b e i cs es v t from target k pre z leads r x xs applies = record {
    branch = grown b k cs es (x ∷ xs) (b.sequent ++ map (entry_at v) (map (with_argument t) (x ∷ xs)));
    sequent = refl;
    only = refl;
    goal = target ++ map (entry_at (label_image cs v)) (map (image_of es) (map (with_argument t) (x ∷ xs)));
    fits = grown-fits b i cs es v target k r (with_argument t x) (map (with_argument t) xs) x xs (sym (map-length (with_argument t) (x ∷ xs)));
    closes = λ ys rest c. subst (λ zs. Closes (translated_problem (intuitionistic phi symbols)) (names_with E) from zs rest) (sym (append_assoc pre (z ∷ []) ys)) (leads (z ∷ ys) rest (single applies c));
  }

  finish-two : (b : OpenBranch) (e : Entry) (i : ℕ) (cs : List CharacterImage) (es : List EigenImage) (v : Label) (t : TermArg) (from target : Sequent) (k : ℕ) (pre : List Step) (z : Step) → Leads from target pre → Ready b i cs es v target k → (x y : Signed) → apply (translated_problem (intuitionistic phi symbols)) (names_with E) target z ≡ Ok (two (target ++ entry_at (label_image cs v) (image_of es (with_argument t x)) ∷ []) (target ++ entry_at (label_image cs v) (image_of es (with_argument t y)) ∷ [])) → Double from i (pre ++ z ∷ []) (grown b k cs es (e ∷ []) (b.sequent ++ entry_at v (with_argument t x) ∷ []) ∷ grown b k cs es (e ∷ []) (b.sequent ++ entry_at v (with_argument t y) ∷ []) ∷ []) (b.sequent ++ entry_at v (with_argument t x) ∷ []) (b.sequent ++ entry_at v (with_argument t y) ∷ [])
  finish-two b e i cs es v t from target k pre z leads r x y applies = record {
    left = grown b k cs es (e ∷ []) (b.sequent ++ entry_at v (with_argument t x) ∷ []);
    left_sequent = refl;
    right = grown b k cs es (e ∷ []) (b.sequent ++ entry_at v (with_argument t y) ∷ []);
    right_sequent = refl;
    both = refl;
    left_goal = target ++ entry_at (label_image cs v) (image_of es (with_argument t x)) ∷ [];
    left_fits = grown-fits b i cs es v target k r (with_argument t x) [] e [] refl;
    right_goal = target ++ entry_at (label_image cs v) (image_of es (with_argument t y)) ∷ [];
    right_fits = grown-fits b i cs es v target k r (with_argument t y) [] e [] refl;
    closes = λ ys zs rest c d. subst (λ us. Closes (translated_problem (intuitionistic phi symbols)) (names_with E) from us rest) (sym (append_assoc pre (z ∷ []) ys)) (leads (z ∷ ys) rest (fork applies c d));
  }

  finish : (h : Shape) (b : OpenBranch) (e : Entry) (i : ℕ) (cs : List CharacterImage) (es : List EigenImage) (v : Label) (t : TermArg) (from target : Sequent) (k : ℕ) (pre : List Step) (z : Step) → Leads from target pre → Ready b i cs es v target k → (x : Signed) (xs : List Signed) → apply (translated_problem (intuitionistic phi symbols)) (names_with E) target z ≡ Ok (with_components h target (label_image cs v) (map (image_of es) (map (with_argument t) (x ∷ xs)))) → Carried from i (pre ++ z ∷ []) (branches_with b e k cs es (x ∷ xs) (with_components h b.sequent v (map (with_argument t) (x ∷ xs)))) (with_components h b.sequent v (map (with_argument t) (x ∷ xs)))
  finish Beta b e i cs es v t from target k pre z leads r x (y ∷ []) applies = finish-two b e i cs es v t from target k pre z leads r x y applies
  finish Beta b e i cs es v t from target k pre z leads r x [] applies = finish-one b e i cs es v t from target k pre z leads r x [] applies
  finish Beta b e i cs es v t from target k pre z leads r x (y ∷ y2 ∷ ys) applies = finish-one b e i cs es v t from target k pre z leads r x (y ∷ y2 ∷ ys) applies
  finish Alpha b e i cs es v t from target k pre z leads r x xs applies = finish-one b e i cs es v t from target k pre z leads r x xs applies
  finish Gamma b e i cs es v t from target k pre z leads r x xs applies = finish-one b e i cs es v t from target k pre z leads r x xs applies
  finish Delta b e i cs es v t from target k pre z leads r x xs applies = finish-one b e i cs es v t from target k pre z leads r x xs applies
  finish Literal b e i cs es v t from target k pre z leads r x xs applies = finish-one b e i cs es v t from target k pre z leads r x xs applies

  -- ---- a use step

  -- the demands that an intuitionistic step meets, and what its branch keeps
  pub record Used (b : OpenBranch) (i : ℕ) (target : Sequent) (a : Formula) (w : Label) (m : ModalArg) (t : TermArg) : Type 0 where
    pub fits : Fits names (names_with E) b i target
    pub reachable : is_reachable Intuitionistic w m ≡ true
    pub new : character_is_new names b.sequent m ≡ true
    pub fresh : eigen_is_new b.sequent t ≡ true
    pub home : home_is names (label_after Intuitionistic w m) t ≡ true
    pub allowed : term_allowed (intuitionistic phi symbols) names (label_after Intuitionistic w m) t ≡ true
    pub outside : (n : ℕ) → m ≡ by_new n → holds_character (new_mark n) w ≡ false
    pub apart : (n : ℕ) → t ≡ by_name n → any_leaf_in (is_eigen n) a ≡ false
    pub listed : IsListed (names_with E) i t (label_image (characters_after b a m) (label_after Intuitionistic w m))

  -- what is kept, with or without an entry for what stands below the box
  ready-with : (b : OpenBranch) (i : ℕ) (target more : Sequent) (k : ℕ) (a : Formula) (w : Label) (m : ModalArg) (t : TermArg) → Used b i target a w m t → length (target ++ more) ≡ k → b.count ≤ k → AreEarly (names_with E) (suc i) k more → Ready b i (characters_after b a m) (eigens_after b i t) (label_after Intuitionistic w m) (target ++ more) k
  ready-with b i target more k a w m t u counted le early =
      let cs = characters_after b a m in
      let v = label_after Intuitionistic w m in
      let f = u.fits in
      record {
        counted = counted;
        stands = stands-left cs (eigens_after b i t) target more b.sequent b.places (stands-after names b i a m t target u.new u.fresh f.stands);
        fit = λ y ys. fit-after names (names_with E) b i a m t v u.new u.home u.listed y ys f.eigens_fit;
        eigens = λ d less. eigens-after (names_with E) b i t d cs v (omega arith) (marks-after b a m d (omega arith) f.marks_early) u.listed f.eigens_early;
        marks = λ d less. marks-after b a m d (omega arith) f.marks_early;
        early = early-append (names_with E) (suc i) k target more (early-later (names_with E) i (suc i) b.count k (omega arith) le target f.early) early;
      }

  -- the box is stepped, and then what stands below it
  boxed-use : (b : OpenBranch) (e : Entry) (i : ℕ) (target : Sequent) (s : Sign) (a : Formula) (w : Label) (m : ModalArg) (t : TermArg) (p : ℕ) (X : Formula) (h : Shape) (x : Signed) (xs : List Signed) → Used b i target a w m t → modal_fits (nu_if_given s) m ≡ true → new_character b a ≡ new_mark b.count ∷ [] → translation_of (formula_image b.eigens a) ≡ box X → entry_of target p ≡ Some (entry_with s (box X) (label_image b.characters w)) → (modal_fits (modal_of S4 s X) no_modal && term_fits (shape_of s X) (argument_image b i t) && has_step (modal_of S4 s X) (shape_of s X)) ≡ true → ((G : Sequent) (L : Label) → with_components (shape_of s X) G L (map (with_argument (argument_image b i t)) (components s X)) ≡ with_components h G L (map (image_of (eigens_after b i t)) (map (with_argument t) (x ∷ xs)))) → Carried target i (apply_to p (modal_image b m) no_term ∷ apply_to (suc b.count) no_modal (argument_image b i t) ∷ []) (branches_with b e (suc b.count) (characters_after b a m) (eigens_after b i t) (x ∷ xs) (with_components h b.sequent (label_after Intuitionistic w m) (map (with_argument t) (x ∷ xs)))) (with_components h b.sequent (label_after Intuitionistic w m) (map (with_argument t) (x ∷ xs)))
  boxed-use b e i target s a w m t p X h x xs u fit kept below at met comps =
      let others = names_with E in
      let cs = characters_after b a m in
      let es = eigens_after b i t in
      let v = label_after Intuitionistic w m in
      let f = u.fits in
      let k = suc b.count in
      let L = label_image cs v in
      let inner = entry_at L (signed s X) in
      let goal = target ++ inner ∷ [] in
      let label : label_after S4 (label_image b.characters w) (modal_image b m) ≡ L = label-image_after b a w m kept u.outside in
      let stepped : apply (translated_problem (intuitionistic phi symbols)) others target (apply_to p (modal_image b m) no_term) ≡ Ok (one goal) = subst (λ (l : Label). apply (translated_problem (intuitionistic phi symbols)) others target (apply_to p (modal_image b m) no_term) ≡ Ok (one (target ++ entry_at l (signed s X) ∷ []))) label (box-applies target p s X (label_image b.characters w) (modal_image b m) at (fits-image (nu_if_given s) b m fit) (reachable-image b w m u.reachable) (new-image E b i target m f.early)) in
      let marks = marks-after b a m k (omega arith) f.marks_early in
      let inner_early : AreEarly others i k (inner ∷ []) = ((label-early k cs marks v, subst (λ (c : Formula). any_leaf_in (is_late others i k) c ≡ false) below (formula-early others i k b.eigens (eigens-later others i i b.count k (omega arith) (omega arith) b.eigens f.eigens_early) a)), tt) in
      let goal_early : AreEarly others i k goal = early-append others i k target (inner ∷ []) (early-later others i i b.count k (omega arith) (omega arith) target f.early) inner_early in
      let long : length goal ≡ k = length-more target inner ∙ ap suc f.counted in
      let found : entry_of goal k ≡ Some inner = subst (λ n. entry_of goal (suc n) ≡ Some inner) f.counted (entry-next target [] inner) in
      let applies = plain-applies goal k s X L (argument_image b i t) found met (known-image names E b i t L f.eigens_fit u.listed) (eigen-new-image others b i k goal t goal_early) (home-image others b i t L u.listed) (allowed-image phi symbols names E cs b i v t (fit-marks names others b a m u.new f.eigens_fit) u.allowed) in
      finish h b e i cs es v t target goal k (apply_to p (modal_image b m) no_term ∷ []) (apply_to k no_modal (argument_image b i t)) (λ ys rest c. single stepped c) (ready-with b i target (inner ∷ []) k a w m t u long (omega arith) (early-later others i (suc i) k k (omega arith) (omega arith) (inner ∷ []) inner_early)) x xs (applies ∙ ap Ok (comps goal L))

  ready-plain : (b : OpenBranch) (i : ℕ) (target : Sequent) (a : Formula) (w : Label) (m : ModalArg) (t : TermArg) → Used b i target a w m t → Ready b i (characters_after b a m) (eigens_after b i t) (label_after Intuitionistic w m) target b.count
  ready-plain b i target a w m t u =
      subst (λ (g : Sequent). Ready b i (characters_after b a m) (eigens_after b i t) (label_after Intuitionistic w m) g b.count) (append-nil target)
      (ready-with b i target [] b.count a w m t u (ap length (append-nil target) ∙ u.fits.counted) (omega arith) tt)

  -- no box in front
  plain-use : (b : OpenBranch) (e : Entry) (i : ℕ) (target : Sequent) (s : Sign) (a : Formula) (w : Label) (t : TermArg) (p : ℕ) (X : Formula) (h : Shape) (x : Signed) (xs : List Signed) → Used b i target a w no_modal t → entry_of target p ≡ Some (entry_with s X (label_image b.characters w)) → (modal_fits (modal_of S4 s X) no_modal && term_fits (shape_of s X) (argument_image b i t) && has_step (modal_of S4 s X) (shape_of s X)) ≡ true → ((G : Sequent) (L : Label) → with_components (shape_of s X) G L (map (with_argument (argument_image b i t)) (components s X)) ≡ with_components h G L (map (image_of (eigens_after b i t)) (map (with_argument t) (x ∷ xs)))) → Carried target i (apply_to p no_modal (argument_image b i t) ∷ []) (branches_with b e b.count b.characters (eigens_after b i t) (x ∷ xs) (with_components h b.sequent w (map (with_argument t) (x ∷ xs)))) (with_components h b.sequent w (map (with_argument t) (x ∷ xs)))
  plain-use b e i target s a w t p X h x xs u at met comps =
      let others = names_with E in
      let f = u.fits in
      let L = label_image b.characters w in
      let applies = plain-applies target p s X L (argument_image b i t) at met (known-image names E b i t L f.eigens_fit u.listed) (eigen-new-image others b i b.count target t f.early) (home-image others b i t L u.listed) (allowed-image phi symbols names E b.characters b i w t f.eigens_fit u.allowed) in
      finish h b e i b.characters (eigens_after b i t) w t target target b.count [] (apply_to p no_modal (argument_image b i t)) (λ ys rest c. c) (ready-plain b i target a w no_modal t u) x xs (applies ∙ ap Ok (comps target L))

  -- a box or a diamond of the formula itself
  modal-use : (b : OpenBranch) (e : Entry) (i : ℕ) (target : Sequent) (s : Sign) (a c : Formula) (w : Label) (m : ModalArg) (p : ℕ) → Used b i target a w m no_term → new_character b a ≡ new_mark b.count ∷ [] → apply (translated_problem (intuitionistic phi symbols)) (names_with E) target (apply_to p (modal_image b m) no_term) ≡ Ok (one (target ++ entry_at (label_after S4 (label_image b.characters w) (modal_image b m)) (signed s (translation_of (formula_image b.eigens c))) ∷ [])) → Carried target i (apply_to p (modal_image b m) no_term ∷ []) (branches_with b e b.count (characters_after b a m) b.eigens (signed s c ∷ []) (one (b.sequent ++ entry_at (label_after Intuitionistic w m) (signed s c) ∷ []))) (one (b.sequent ++ entry_at (label_after Intuitionistic w m) (signed s c) ∷ []))
  modal-use b e i target s a c w m p u kept applies =
      let v = label_after Intuitionistic w m in
      let cs = characters_after b a m in
      let label : label_after S4 (label_image b.characters w) (modal_image b m) ≡ label_image cs v = label-image_after b a w m kept u.outside in
      finish Alpha b e i cs b.eigens v no_term target target b.count [] (apply_to p (modal_image b m) no_term) (λ ys rest c. c) (ready-plain b i target a w m no_term u) (signed s c) []
      (applies ∙ (λ j. Ok (one (target ++ entry_at (label j) (signed s (translation_of (formula_image b.eigens c))) ∷ []))))

  -- a step on an atom becomes no step
  atom-fits : (b : OpenBranch) (i : ℕ) (target : Sequent) (s : Sign) (r : ℕ) (ts : Terms) (w : Label) (m : ModalArg) (p : ℕ) → Used b i target (atom r ts) w m no_term → EntryStands (characters_after b (atom r ts) m) b.eigens target (entry_with s (atom r ts) (label_after Intuitionistic w m)) p → Carried target i [] (record { sequent = b.sequent ++ entry_at (label_after Intuitionistic w m) (signed s (atom r ts)) ∷ []; places = b.places ++ p ∷ []; count = b.count; characters = characters_after b (atom r ts) m; eigens = b.eigens } ∷ []) (one (b.sequent ++ entry_at (label_after Intuitionistic w m) (signed s (atom r ts)) ∷ []))
  atom-fits b i target s r ts w m p u stands =
      let others = names_with E in
      let a = atom r ts in
      let v = label_after Intuitionistic w m in
      let cs = characters_after b a m in
      let f = u.fits in
      record {
        branch = record { sequent = b.sequent ++ entry_at v (signed s a) ∷ []; places = b.places ++ p ∷ []; count = b.count; characters = cs; eigens = b.eigens };
        sequent = refl;
        only = refl;
        goal = target;
        fits = record {
          counted = f.counted;
          stands = stands-append cs b.eigens target b.sequent (entry_at v (signed s a) ∷ []) b.places (p ∷ []) (stands-after names b i a m no_term target u.new u.fresh f.stands) (stands, tt);
          eigens_fit = fit-after names others b i a m no_term v u.new u.home tt (signed s a) [] f.eigens_fit;
          eigens_early = eigens-later others i (suc i) b.count b.count (omega arith) (omega arith) b.eigens f.eigens_early;
          marks_early = marks_of m;
          early = early-later others i (suc i) b.count b.count (omega arith) (omega arith) target f.early;
        };
        closes = λ ys rest c. c;
      }
    where
      marks_of : (m : ModalArg) → MarksEarly b.count (characters_after b (atom r ts) m)
      marks_of no_modal = u.fits.marks_early
      marks_of (to v) = u.fits.marks_early
      marks_of (by_new n) = (refl, u.fits.marks_early)

  -- the F atom stays, the T atom may move on
  atom-stands : (b : OpenBranch) (i : ℕ) (target : Sequent) (s : Sign) (r : ℕ) (ts : Terms) (w : Label) (m : ModalArg) (p : ℕ) → Used b i target (atom r ts) w m no_term → modal_fits (nu_if_given s) m ≡ true → EntryStands b.characters b.eigens target (entry_with s (atom r ts) w) p → EntryStands (characters_after b (atom r ts) m) b.eigens target (entry_with s (atom r ts) (label_after Intuitionistic w m)) p
  atom-stands b i target T r ts w (to v) p u fit (L, at, same) = (L, at, prefix-on L (label_image b.characters w) (label_image b.characters v) same (prefix-image b.characters w v u.reachable))
  atom-stands b i target F r ts w (by_new n) p u fit (L, at, same) =
      let x : CharacterImage = record { number = n; label = [] } in
      let still : label_image (x ∷ b.characters) w ≡ label_image b.characters w = label-new b.characters x w (u.outside n refl) in
      let none : label_image (x ∷ b.characters) (new_mark n ∷ []) ≡ [] = append-nil (mark_image (x ∷ b.characters) (new_mark n)) ∙ mark-new b.characters n [] in
      (L, at, same ∙ sym (label-append (x ∷ b.characters) w (new_mark n ∷ []) ∙ (λ j. still j ++ none j) ∙ append-nil (label_image b.characters w)))
  atom-stands b i target T r ts w no_modal p u fit h = absurd (false≢true fit)
  atom-stands b i target T r ts w (by_new n) p u fit h = absurd (false≢true fit)
  atom-stands b i target F r ts w no_modal p u fit h = absurd (false≢true fit)
  atom-stands b i target F r ts w (to v) p u fit h = absurd (false≢true fit)

  -- by the kinds of the formula
  pub use-carried : (b : OpenBranch) (i : ℕ) (target : Sequent) (s : Sign) (a : Formula) (w : Label) (m : ModalArg) (t : TermArg) (p : ℕ) → Used b i target a w m t → modal_fits (modal_of Intuitionistic s a) m ≡ true → term_fits (shape_of s a) t ≡ true → EntryStands b.characters b.eigens target (entry_with s a w) p → Carried target i (use_steps b i p a m t) (branches_by b i p (entry_with s a w) m t (Ok (children_of Intuitionistic b.sequent (entry_with s a w) m t))) (children_of Intuitionistic b.sequent (entry_with s a w) m t)
  use-carried b i target s (atom r ts) w m no_term p u fit arg h = atom-fits b i target s r ts w m p u (atom-stands b i target s r ts w m p u fit h)
  use-carried b i target s (atom r ts) w m (by_term t) p u fit arg h = absurd (false≢true arg)
  use-carried b i target s (atom r ts) w m (by_name n) p u fit arg h = absurd (false≢true arg)
  use-carried b i target s (neg a) w m no_term p u fit arg h = boxed-use b (entry_with s (neg a) w) i target s (neg a) w m no_term p (neg (translation_of (formula_image b.eigens a))) Alpha (signed (other s) a) [] u fit refl refl (stands-there b target s (neg a) w p refl h) refl (λ G L. refl)
  use-carried b i target s (neg a) w m (by_term t) p u fit arg h = absurd (false≢true arg)
  use-carried b i target s (neg a) w m (by_name n) p u fit arg h = absurd (false≢true arg)
  use-carried b i target T (conj a c) w no_modal no_term p u fit arg h = plain-use b (entry_with T (conj a c) w) i target T (conj a c) w no_term p (translation_of (formula_image b.eigens (conj a c))) Alpha (signed T a) (signed T c ∷ []) u (stands-there b target T (conj a c) w p refl h) refl (λ G L. refl)
  use-carried b i target F (conj a c) w no_modal no_term p u fit arg h = plain-use b (entry_with F (conj a c) w) i target F (conj a c) w no_term p (translation_of (formula_image b.eigens (conj a c))) Beta (signed F a) (signed F c ∷ []) u (stands-there b target F (conj a c) w p refl h) refl (λ G L. refl)
  use-carried b i target T (disj a c) w no_modal no_term p u fit arg h = plain-use b (entry_with T (disj a c) w) i target T (disj a c) w no_term p (translation_of (formula_image b.eigens (disj a c))) Beta (signed T a) (signed T c ∷ []) u (stands-there b target T (disj a c) w p refl h) refl (λ G L. refl)
  use-carried b i target F (disj a c) w no_modal no_term p u fit arg h = plain-use b (entry_with F (disj a c) w) i target F (disj a c) w no_term p (translation_of (formula_image b.eigens (disj a c))) Alpha (signed F a) (signed F c ∷ []) u (stands-there b target F (disj a c) w p refl h) refl (λ G L. refl)
  use-carried b i target T (imp a c) w m no_term p u fit arg h = boxed-use b (entry_with T (imp a c) w) i target T (imp a c) w m no_term p (imp (translation_of (formula_image b.eigens a)) (translation_of (formula_image b.eigens c))) Beta (signed F a) (signed T c ∷ []) u fit refl refl (stands-there b target T (imp a c) w p refl h) refl (λ G L. refl)
  use-carried b i target F (imp a c) w m no_term p u fit arg h = boxed-use b (entry_with F (imp a c) w) i target F (imp a c) w m no_term p (imp (translation_of (formula_image b.eigens a)) (translation_of (formula_image b.eigens c))) Alpha (signed T a) (signed F c ∷ []) u fit refl refl (stands-there b target F (imp a c) w p refl h) refl (λ G L. refl)
  use-carried b i target T (all a) w m (by_term t) p u fit arg h = boxed-use b (entry_with T (all a) w) i target T (all a) w m (by_term t) p (all (translation_of (formula_image b.eigens a))) Gamma (signed T a) [] u fit refl refl (stands-there b target T (all a) w p refl h) refl (λ G L j. with_components Gamma G L (argument-image b i (by_term t) (signed T a) u.apart j ∷ []))
  use-carried b i target F (all a) w m (by_name n) p u fit arg h = boxed-use b (entry_with F (all a) w) i target F (all a) w m (by_name n) p (all (translation_of (formula_image b.eigens a))) Delta (signed F a) [] u fit refl refl (stands-there b target F (all a) w p refl h) refl (λ G L j. with_components Delta G L (argument-image b i (by_name n) (signed F a) u.apart j ∷ []))
  use-carried b i target T (ex a) w no_modal (by_name n) p u fit arg h = plain-use b (entry_with T (ex a) w) i target T (ex a) w (by_name n) p (ex (translation_of (formula_image b.eigens a))) Delta (signed T a) [] u (stands-there b target T (ex a) w p refl h) refl (λ G L j. with_components Delta G L (argument-image b i (by_name n) (signed T a) u.apart j ∷ []))
  use-carried b i target F (ex a) w no_modal (by_term t) p u fit arg h = plain-use b (entry_with F (ex a) w) i target F (ex a) w (by_term t) p (ex (translation_of (formula_image b.eigens a))) Gamma (signed F a) [] u (stands-there b target F (ex a) w p refl h) refl (λ G L j. with_components Gamma G L (argument-image b i (by_term t) (signed F a) u.apart j ∷ []))
  use-carried b i target s (box a) w m no_term p u fit arg h = modal-use b (entry_with s (box a) w) i target s (box a) a w m p u refl (box-applies target p s (translation_of (formula_image b.eigens a)) (label_image b.characters w) (modal_image b m) (stands-there b target s (box a) w p refl h) (fits-image (nu_if_given s) b m fit) (reachable-image b w m u.reachable) (new-image E b i target m u.fits.early))
  use-carried b i target s (box a) w m (by_term t) p u fit arg h = absurd (false≢true arg)
  use-carried b i target s (box a) w m (by_name n) p u fit arg h = absurd (false≢true arg)
  use-carried b i target s (dia a) w m no_term p u fit arg h = modal-use b (entry_with s (dia a) w) i target s (dia a) a w m p u refl (dia-applies target p s (translation_of (formula_image b.eigens a)) (label_image b.characters w) (modal_image b m) (stands-there b target s (dia a) w p refl h) (fits-image (nu_if_shown s) b m fit) (reachable-image b w m u.reachable) (new-image E b i target m u.fits.early))
  use-carried b i target s (dia a) w m (by_term t) p u fit arg h = absurd (false≢true arg)
  use-carried b i target s (dia a) w m (by_name n) p u fit arg h = absurd (false≢true arg)
  use-carried b i target T (conj a c) w no_modal (by_term t) p u fit arg h = absurd (false≢true arg)
  use-carried b i target T (conj a c) w no_modal (by_name n) p u fit arg h = absurd (false≢true arg)
  use-carried b i target F (conj a c) w no_modal (by_term t) p u fit arg h = absurd (false≢true arg)
  use-carried b i target F (conj a c) w no_modal (by_name n) p u fit arg h = absurd (false≢true arg)
  use-carried b i target T (disj a c) w no_modal (by_term t) p u fit arg h = absurd (false≢true arg)
  use-carried b i target T (disj a c) w no_modal (by_name n) p u fit arg h = absurd (false≢true arg)
  use-carried b i target F (disj a c) w no_modal (by_term t) p u fit arg h = absurd (false≢true arg)
  use-carried b i target F (disj a c) w no_modal (by_name n) p u fit arg h = absurd (false≢true arg)
  use-carried b i target T (imp a c) w m (by_term t) p u fit arg h = absurd (false≢true arg)
  use-carried b i target T (imp a c) w m (by_name n) p u fit arg h = absurd (false≢true arg)
  use-carried b i target F (imp a c) w m (by_term t) p u fit arg h = absurd (false≢true arg)
  use-carried b i target F (imp a c) w m (by_name n) p u fit arg h = absurd (false≢true arg)
  use-carried b i target T (all a) w m no_term p u fit arg h = absurd (false≢true arg)
  use-carried b i target T (all a) w m (by_name n) p u fit arg h = absurd (false≢true arg)
  use-carried b i target F (all a) w m no_term p u fit arg h = absurd (false≢true arg)
  use-carried b i target F (all a) w m (by_term t) p u fit arg h = absurd (false≢true arg)
  use-carried b i target T (ex a) w no_modal no_term p u fit arg h = absurd (false≢true arg)
  use-carried b i target T (ex a) w no_modal (by_term t) p u fit arg h = absurd (false≢true arg)
  use-carried b i target F (ex a) w no_modal no_term p u fit arg h = absurd (false≢true arg)
  use-carried b i target F (ex a) w no_modal (by_name n) p u fit arg h = absurd (false≢true arg)
  use-carried b i target T (conj a c) w (to v) t p u fit arg h = absurd (false≢true fit)
  use-carried b i target T (conj a c) w (by_new n) t p u fit arg h = absurd (false≢true fit)
  use-carried b i target F (conj a c) w (to v) t p u fit arg h = absurd (false≢true fit)
  use-carried b i target F (conj a c) w (by_new n) t p u fit arg h = absurd (false≢true fit)
  use-carried b i target T (disj a c) w (to v) t p u fit arg h = absurd (false≢true fit)
  use-carried b i target T (disj a c) w (by_new n) t p u fit arg h = absurd (false≢true fit)
  use-carried b i target F (disj a c) w (to v) t p u fit arg h = absurd (false≢true fit)
  use-carried b i target F (disj a c) w (by_new n) t p u fit arg h = absurd (false≢true fit)
  use-carried b i target T (ex a) w (to v) t p u fit arg h = absurd (false≢true fit)
  use-carried b i target T (ex a) w (by_new n) t p u fit arg h = absurd (false≢true fit)
  use-carried b i target F (ex a) w (to v) t p u fit arg h = absurd (false≢true fit)
  use-carried b i target F (ex a) w (by_new n) t p u fit arg h = absurd (false≢true fit)

  -- ---- an axiom: both boxes are stepped to one new label

  axiom-carried : (b : OpenBranch) (i : ℕ) (target : Sequent) (r : ℕ) (ts : Terms) (w : Label) (g f : ℕ) → Fits names (names_with E) b i target → EntryStands b.characters b.eigens target (entry_with T (atom r ts) w) g → EntryStands b.characters b.eigens target (entry_with F (atom r ts) w) f → (rest : List Step) → Closes (translated_problem (intuitionistic phi symbols)) (names_with E) target (axiom_steps b g f w ++ rest) rest
  axiom-carried b i target r ts w g f fits (L, at, near) (M, there, same) rest =
      let others = names_with E in
      let a = formula_image b.eigens (atom r ts) in
      let u = label_image b.characters w in
      let v = u ++ new_mark b.count ∷ [] in
      let x = entry_with F a v in
      let y = entry_with T a v in
      let goal = target ++ x ∷ [] in
      let end = goal ++ y ∷ [] in
      let there' : entry_of target f ≡ Some (entry_with F (box a) u) = subst (λ (l : Label). entry_of target f ≡ Some (entry_with F (box a) l)) same there in
      let first = box-applies target f F a u (by_new b.count) there' refl refl (not_from_false _ (new-character E i b.count target fits.early)) in
      let reach : is_prefix character_eq L v ≡ true = prefix-on L u v near (prefix-more u (new_mark b.count ∷ [])) in
      let second = box-applies goal g T a L (to v) (entry-left target (x ∷ []) g _ at) refl reach refl in
      let long : length goal ≡ suc b.count = length-more target x ∙ ap suc fits.counted in
      let found_x : entry_of end (suc b.count) ≡ Some x = entry-left goal (y ∷ []) (suc b.count) x (subst (λ n. entry_of goal (suc n) ≡ Some x) fits.counted (entry-next target [] x)) in
      let found_y : entry_of end (suc (suc b.count)) ≡ Some y = subst (λ n. entry_of end (suc n) ≡ Some y) long (entry-next goal [] y) in
      let joined : connects y x ≡ true = rw ((formula_eq-tells a a).1 refl) ((list_eq-tells character_eq character_eq-tells v v).1 refl) in
      let ends : apply (translated_problem (intuitionistic phi symbols)) others end (close (suc (suc b.count)) (suc b.count)) ≡ Ok closed = rw found_x (rw found_y (rw joined refl)) in
      single first (single second (leaf ends))

  close-by : (b : OpenBranch) (i : ℕ) (target : Sequent) (a : Formula) (w : Label) (g f : ℕ) → is_atom a ≡ true → Fits names (names_with E) b i target → EntryStands b.characters b.eigens target (entry_with T a w) g → EntryStands b.characters b.eigens target (entry_with F a w) f → (rest : List Step) → Closes (translated_problem (intuitionistic phi symbols)) (names_with E) target (axiom_steps b g f w ++ rest) rest
  close-by b i target (atom r ts) w g f h fits left right = axiom-carried b i target r ts w g f fits left right
  close-by b i target (neg a) w g f h fits left right = absurd (false≢true h)
  close-by b i target (conj a c) w g f h fits left right = absurd (false≢true h)
  close-by b i target (disj a c) w g f h fits left right = absurd (false≢true h)
  close-by b i target (imp a c) w g f h fits left right = absurd (false≢true h)
  close-by b i target (all a) w g f h fits left right = absurd (false≢true h)
  close-by b i target (ex a) w g f h fits left right = absurd (false≢true h)
  close-by b i target (box a) w g f h fits left right = absurd (false≢true h)
  close-by b i target (dia a) w g f h fits left right = absurd (false≢true h)

  pub close-carried : (b : OpenBranch) (i : ℕ) (target : Sequent) (x y : Entry) (g f : ℕ) → connects x y ≡ true → Fits names (names_with E) b i target → EntryStands b.characters b.eigens target x g → EntryStands b.characters b.eigens target y f → (rest : List Step) → Closes (translated_problem (intuitionistic phi symbols)) (names_with E) target (axiom_steps b g f y.label ++ rest) rest
  close-carried b i target x y g f h fits left right rest =
      let e = and_parts (sign_eq x.sign T && sign_eq y.sign F && is_atom x.formula && formula_eq x.formula y.formula) (list_eq character_eq x.label y.label) h in
      let d = and_parts (sign_eq x.sign T && sign_eq y.sign F && is_atom x.formula) (formula_eq x.formula y.formula) e.0 in
      let c = and_parts (sign_eq x.sign T && sign_eq y.sign F) (is_atom x.formula) d.0 in
      let signs = and_parts (sign_eq x.sign T) (sign_eq y.sign F) c.0 in
      let formula = (formula_eq-tells x.formula y.formula).0 d.1 in
      let label = (list_eq-tells character_eq character_eq-tells x.label y.label).0 e.1 in
      let first : x ≡ entry_with T y.formula y.label = λ j. entry_with ((sign_eq-tells x.sign T).0 signs.0 j) (formula j) (label j) in
      let second : y ≡ entry_with F y.formula y.label = λ j. entry_with ((sign_eq-tells y.sign F).0 signs.1 j) y.formula y.label in
      let is : is_atom y.formula ≡ true = subst (λ (a : Formula). is_atom a ≡ true) formula c.1 in
      close-by b i target y.formula y.label g f is fits (subst (λ (z : Entry). EntryStands b.characters b.eigens target z g) first left) (subst (λ (z : Entry). EntryStands b.characters b.eigens target z f) second right) rest
