-- What a step's demands become in S4, and what a branch keeps past a step.
use Rattle.std.proofs.Common.{◌≡◌, ℕ, suc, ◌+◌, ◌<◌, ◌≤◌, List, [], ◌∷◌, ◌++◌, map, length, Bool, true, false, not, ◌==◌, refl, sym, ◌∙◌, ap, subst, inl, inr, Option, Some, None, Ok, nat_le, arith, append_assoc, append-nil, eqb-true, leb-true}
use Rattle.std.specs.List.{AllByRecursion, list_any}
use Rattle.std.specs.Option.{option_map_or}
use Rattle.std.proofs.lemmas.Bool.{false≢true, cases_Bool, not-true, not_from_false}
use Rattle.plain_laws.proofs.Lists.{map-length}
use Rattle.calculus.specs.declared.setting.Logic.TheVariants.{Intuitionistic, S4}
use Rattle.calculus.specs.declared.setting.Domains.TheVariants.{Cumulative}
use Rattle.calculus.specs.declared.kind.ModalPart.{ModalPart}
use Rattle.calculus.specs.declared.kind.ModalPart.TheVariants.{Plain, Nu, Pi}
use Rattle.calculus.specs.Syntax.{Symbol, eigen, Formula, atom, neg, conj, disj, imp, all, ex, box, dia, setting_of, Problem}
use Rattle.calculus.specs.Equality.{list_eq}
use Rattle.calculus.specs.Kinds.{Signed, signed}
use Rattle.calculus.specs.Labels.{is_prefix, home_allows}
use Rattle.calculus.specs.Substitution.{instance, any_leaf, any_leaf_in}
use Rattle.calculus.specs.Derivations.{new_mark, Label, character_eq, Entry, Sequent, EigenName, Names, ModalArg, no_modal, to, by_new, TermArg, no_term, by_term, by_name}
use Rattle.calculus.specs.Calculus.{Children, eigen_named, holds_character, is_eigen, is_unknown, modal_fits, is_known, label_after, is_reachable, character_is_new, eigen_is_new, home_is, is_forbidden, term_allowed, entry_at, with_argument, Condition, first_fault}
use Rattle.calculus.specs.Translation.{translation_of, translated_problem}
use Rattle.godel_transfer.specs.Transfer.{CharacterImage, EigenImage, mark_image, label_image, eigen_image, term_image, formula_image, OpenBranch, numbers_for, modal_image, argument_image, new_character, characters_after, eigens_after, names_with}
use Rattle.calculus.proofs.EqualityLaws.{list_eq-tells, character_eq-tells}
use Rattle.calculus.proofs.SequentLaws.{AreMet}
use Rattle.godel_transfer.proofs.ImageLaws.{any-on_right, prefix-image, label-new, mark-new, label-append, formula-new, formula-with, translation-with, each-fails, image-fails, term-leaves, eigen-at}
use Rattle.godel_transfer.proofs.TransferState.{is_mark_late, AreEarly, MarksEarly, EigensEarly, EachStands, EigenFits, Fits, early-append, marks-later, eigens-later, new-character, new-eigen, entry-next, stands-left, stands-append, label-self, stands-new_mark, stands-new_eigen, fit-new_mark, fit-more, label-early, formula-early}

-- an intuitionistic problem
abbrev pub intuitionistic : Formula → List Symbol → Problem
intuitionistic a symbols = record { setting = setting_of Intuitionistic Cumulative; formula = a; symbols = symbols }

pub met-first : (ds : List Condition) (c : Children) → AreMet ds → first_fault ds c ≡ Ok c
met-first [] c h = refl
met-first (d ∷ ds) c h = rw h.0 (met-first ds c h.1)

-- ---- demands

pub fits-image : (q : ModalPart) (b : OpenBranch) (m : ModalArg) → modal_fits q m ≡ true → modal_fits q (modal_image b m) ≡ true
fits-image Plain b no_modal h = refl
fits-image Nu b (to v) h = refl
fits-image Pi b (by_new n) h = refl
fits-image q b m h = absurd (false≢true h)

pub reachable-image : (b : OpenBranch) (w : Label) (m : ModalArg) → is_reachable Intuitionistic w m ≡ true → is_reachable S4 (label_image b.characters w) (modal_image b m) ≡ true
reachable-image b w no_modal h = refl
reachable-image b w (to v) h = prefix-image b.characters w v h
reachable-image b w (by_new n) h = refl

pub new-image : (E : List EigenName) (b : OpenBranch) (i : ℕ) (target : Sequent) (m : ModalArg) → AreEarly (names_with E) i b.count target → character_is_new (names_with E) target (modal_image b m) ≡ true
new-image E b i target no_modal h = refl
new-image E b i target (to v) h = refl
new-image E b i target (by_new n) h = not_from_false _ (new-character E i b.count target h)

pub eigen-new-image : (names : Names) (b : OpenBranch) (i c : ℕ) (target : Sequent) (t : TermArg) → AreEarly names i c target → eigen_is_new target (argument_image b i t) ≡ true
eigen-new-image names b i c target no_term h = refl
eigen-new-image names b i c target (by_term t) h = refl
eigen-new-image names b i c target (by_name n) h = not_from_false _ (new-eigen names i c target h)

-- the introduced eigenvariable is listed, with this home
abbrev pub IsListed : Names → ℕ → TermArg → Label → Type 0
IsListed others i (by_name n) home = eigen_named others i ≡ Some (record { number = i; home = home })
IsListed others i _ home = Unit {0}

each-known : (names others : Names) (cs : List CharacterImage) (s : Sequent) (es : List EigenImage) → AllByRecursion (EigenFits names others cs s) es → AllByRecursion (λ (x : EigenImage). is_unknown others (eigen x.image) ≡ false) es
each-known names others cs s [] h = tt
each-known names others cs s (x ∷ es) h = (rw h.0.listed refl, each-known names others cs s es h.1)

pub known-image : (names : Names) (E : List EigenName) (b : OpenBranch) (i : ℕ) (t : TermArg) (home : Label) → AllByRecursion (EigenFits names (names_with E) b.characters b.sequent) b.eigens → IsListed (names_with E) i t home → is_known (names_with E) (argument_image b i t) ≡ true
known-image names E b i no_term home h l = refl
known-image names E b i (by_term t) home h l =
    let q = is_unknown (names_with E) in
    not_from_false _ (term-leaves q b.eigens (λ k. refl) (each-fails q refl b.eigens (each-known names (names_with E) b.characters b.sequent b.eigens h)) refl t)
known-image names E b i (by_name n) home h l = rw l refl

pub home-image : (others : Names) (b : OpenBranch) (i : ℕ) (t : TermArg) (home : Label) → IsListed others i t home → home_is others home (argument_image b i t) ≡ true
home-image others b i no_term home l = refl
home-image others b i (by_term t) home l = refl
home-image others b i (by_name n) home l = rw l ((list_eq-tells character_eq character_eq-tells home home).1 refl)

-- a name that may stand at v has an image that may stand at the image of v
eigen-allowed : (a : Formula) (symbols : List Symbol) (names : Names) (E : List EigenName) (cs : List CharacterImage) (s : Sequent) (v : Label) (es : List EigenImage) → AllByRecursion (EigenFits names (names_with E) cs s) es → (n : ℕ) → is_forbidden (intuitionistic a symbols) names v (eigen n) ≡ false → any_leaf (is_forbidden (translated_problem (intuitionistic a symbols)) (names_with E) (label_image cs v)) (eigen_image es n) ≡ false
eigen-allowed a symbols names E cs s v [] h n g = refl
eigen-allowed a symbols names E cs s v (x ∷ es) h n g = elim (cases_Bool (x.number == n)) [
  | inl e ↦
      let f = h.0 in
      let same : x.number ≡ n = eqb-true x.number n e in
      let named : eigen_named names n ≡ Some f.source = subst (λ k. eigen_named names k ≡ Some f.source) same f.named in
      let g' : not (is_prefix character_eq f.source.home v) ≡ false = subst (λ (o : Option EigenName). option_map_or (λ (y : EigenName). not (home_allows character_eq Cumulative y.home v)) o true ≡ false) named g in
      let allowed : is_prefix character_eq f.source.home v ≡ true = from_not (is_prefix character_eq f.source.home v) g' in
      let p : is_prefix character_eq f.image.home (label_image cs v) ≡ true = subst (λ (w : Label). is_prefix character_eq w (label_image cs v) ≡ true) (sym f.home) (prefix-image cs f.source.home v allowed) in
      rw e (rw f.listed (rw p refl))
  | inr e ↦ rw e (eigen-allowed a symbols names E cs s v es h.1 n g)
]
  where
    from_not : (x : Bool) → not x ≡ false → x ≡ true
    from_not true h = refl
    from_not false h = absurd (false≢true (sym h))

pub allowed-image : (a : Formula) (symbols : List Symbol) (names : Names) (E : List EigenName) (cs : List CharacterImage) (b : OpenBranch) (i : ℕ) (v : Label) (t : TermArg) → AllByRecursion (EigenFits names (names_with E) cs b.sequent) b.eigens → term_allowed (intuitionistic a symbols) names v t ≡ true → term_allowed (translated_problem (intuitionistic a symbols)) (names_with E) (label_image cs v) (argument_image b i t) ≡ true
allowed-image a symbols names E cs b i v no_term h g = refl
allowed-image a symbols names E cs b i v (by_name n) h g = refl
allowed-image a symbols names E cs b i v (by_term t) h g =
    let p = is_forbidden (intuitionistic a symbols) names v in
    let q = is_forbidden (translated_problem (intuitionistic a symbols)) (names_with E) (label_image cs v) in
    not_from_false _ (image-fails p q b.eigens (λ k e. e) (eigen-allowed a symbols names E cs b.sequent v b.eigens h) refl t (not-true _ g))

-- the label to which the step leads, where the used formula is no atom
pub label-image_after : (b : OpenBranch) (a : Formula) (w : Label) (m : ModalArg) → new_character b a ≡ new_mark b.count ∷ [] → ((n : ℕ) → m ≡ by_new n → holds_character (new_mark n) w ≡ false) → label_after S4 (label_image b.characters w) (modal_image b m) ≡ label_image (characters_after b a m) (label_after Intuitionistic w m)
label-image_after b a w no_modal c new = refl
label-image_after b a w (to v) c new = refl
label-image_after b a w (by_new n) c new =
    let cs = characters_after b a (by_new n) in
    sym (label-append cs w (new_mark n ∷ [])
    ∙ (λ i. label_image-is i ++ mark-is i))
  where
    x : CharacterImage
    x = record { number = n; label = new_character b a }

    label_image-is : label_image (x ∷ b.characters) w ≡ label_image b.characters w
    label_image-is = label-new b.characters x w (new n refl)

    mark-is : label_image (x ∷ b.characters) (new_mark n ∷ []) ≡ new_mark b.count ∷ []
    mark-is = append-nil (mark_image (x ∷ b.characters) (new_mark n)) ∙ mark-new b.characters n (new_character b a) ∙ c

-- ---- instances

abbrev pub image_of : List EigenImage → Signed → Signed
image_of es x = signed x.sign (translation_of (formula_image es x.formula))

-- the component with its argument
pub argument-image : (b : OpenBranch) (i : ℕ) (t : TermArg) (x : Signed) → ((n : ℕ) → t ≡ by_name n → any_leaf_in (is_eigen n) x.formula ≡ false) → with_argument (argument_image b i t) (image_of b.eigens x) ≡ image_of (eigens_after b i t) (with_argument t x)
argument-image b i no_term x h = refl
argument-image b i (by_term t) x h = ap (signed x.sign) (sym (translation-with (term_image b.eigens t) 0 (formula_image b.eigens x.formula)) ∙ ap translation_of (sym (formula-with b.eigens t 0 x.formula)))
argument-image b i (by_name n) x h =
    let y : EigenImage = record { number = n; image = i } in
    let es = y ∷ b.eigens in
    ap (signed x.sign) (sym (translation-with (eigen i) 0 (formula_image b.eigens x.formula))
    ∙ ap translation_of (sym (formula-with es (eigen n) 0 x.formula ∙ (λ j. instance (eigen-at b.eigens n i j) (formula-new b.eigens y x.formula (h n refl) j)))))

-- ---- what is kept

pub length-more : (s : Sequent) (e : Entry) → length (s ++ e ∷ []) ≡ suc (length s)
length-more [] e = refl
length-more (x ∷ s) e = ap suc (length-more s e)

pub length-both : (s t : Sequent) → length (s ++ t) ≡ length s + length t
length-both [] t = omega arith
length-both (x ∷ s) t = let e = length-both s t in omega arith

pub new-stands : {A : Type 0} (cs : List CharacterImage) (es : List EigenImage) (target : Sequent) (v : Label) (ys : List Signed) (zs : List A) → length zs ≡ length ys → EachStands cs es (target ++ map (entry_at (label_image cs v)) (map (image_of es) ys)) (map (entry_at v) ys) (numbers_for (suc (length target)) zs)
new-stands cs es target v [] [] e = tt
new-stands cs es target v [] (z ∷ zs) e = absurd (omega arith)
new-stands cs es target v (y ∷ ys) [] e = absurd (omega arith)
new-stands cs es target v (y ∷ ys) (z ∷ zs) e =
    let u = label_image cs v in
    let x = entry_at u (image_of es y) in
    let rest = map (entry_at u) (map (image_of es) ys) in
    let again = new-stands cs es (target ++ x ∷ []) v ys zs (omega arith) in
    let same : target ++ x ∷ [] ++ rest ≡ target ++ (x ∷ rest) = append_assoc target (x ∷ []) rest in
    let a = subst (λ (t : Sequent). EachStands cs es t (map (entry_at v) ys) (numbers_for (suc (length (target ++ x ∷ []))) zs)) same again in
    let b = subst (λ n. EachStands cs es (target ++ (x ∷ rest)) (map (entry_at v) ys) (numbers_for (suc n) zs)) (length-more target x) a in
    ((u, entry-next target rest x, label-self y.sign y.formula u), b)

pub new-early : (names : Names) (i c : ℕ) (cs : List CharacterImage) (es : List EigenImage) (v : Label) → MarksEarly c cs → EigensEarly names i c es → (ys : List Signed) → AreEarly names i c (map (entry_at (label_image cs v)) (map (image_of es) ys))
new-early names i c cs es v h g [] = tt
new-early names i c cs es v h g (y ∷ ys) = ((label-early c cs h v, formula-early names i c es g y.formula), new-early names i c cs es v h g ys)

-- a child's branch
pub child-fits : {A : Type 0} (names others : Names) (i : ℕ) (cs : List CharacterImage) (es : List EigenImage) (s : Sequent) (ps : List ℕ) (v : Label) (ys : List Signed) (zs : List A) (target : Sequent) (k : ℕ) → length target ≡ k → length zs ≡ length ys → EachStands cs es target s ps → AllByRecursion (EigenFits names others cs (s ++ map (entry_at v) ys)) es → EigensEarly others i (k + length zs) es → MarksEarly (k + length zs) cs → AreEarly others i (k + length zs) target → Fits names others (record { sequent = s ++ map (entry_at v) ys; places = ps ++ numbers_for (suc k) zs; count = k + length zs; characters = cs; eigens = es }) i (target ++ map (entry_at (label_image cs v)) (map (image_of es) ys))
child-fits names others i cs es s ps v ys zs target k counted same stands fit eigens marks early =
    let u = label_image cs v in
    let new = map (entry_at u) (map (image_of es) ys) in
    let new_length : length new ≡ length ys = map-length (entry_at u) (map (image_of es) ys) ∙ map-length (image_of es) ys in
    let both = length-both target new in
    record {
      counted = omega arith;
      stands = stands-append cs es (target ++ new) s (map (entry_at v) ys) ps (numbers_for (suc k) zs) (stands-left cs es target new s ps stands) (subst (λ n. EachStands cs es (target ++ new) (map (entry_at v) ys) (numbers_for (suc n) zs)) counted (new-stands cs es target v ys zs same));
      eigens_fit = fit;
      eigens_early = eigens;
      marks_early = marks;
      early = early-append others i (k + length zs) target new early (new-early others i (k + length zs) cs es v marks eigens ys);
    }

-- ---- the images after a step

pub stands-after : (names : Names) (b : OpenBranch) (i : ℕ) (a : Formula) (m : ModalArg) (t : TermArg) (target : Sequent) → character_is_new names b.sequent m ≡ true → eigen_is_new b.sequent t ≡ true → EachStands b.characters b.eigens target b.sequent b.places → EachStands (characters_after b a m) (eigens_after b i t) target b.sequent b.places
stands-after names b i a m t target new fresh h = eigens t fresh (marks m new)
  where
    marks : (m : ModalArg) → character_is_new names b.sequent m ≡ true → EachStands (characters_after b a m) b.eigens target b.sequent b.places
    marks no_modal new = h
    marks (to v) new = h
    marks (by_new n) new = stands-new_mark names b.characters b.eigens (record { number = n; label = new_character b a }) target b.sequent b.places (not-true _ new) h

    eigens : (t : TermArg) → eigen_is_new b.sequent t ≡ true → EachStands (characters_after b a m) b.eigens target b.sequent b.places → EachStands (characters_after b a m) (eigens_after b i t) target b.sequent b.places
    eigens no_term fresh g = g
    eigens (by_term t) fresh g = g
    eigens (by_name n) fresh g = stands-new_eigen (characters_after b a m) b.eigens (record { number = n; image = i }) target b.sequent b.places (not-true _ fresh) g

pub fit-marks : (names others : Names) (b : OpenBranch) (a : Formula) (m : ModalArg) → character_is_new names b.sequent m ≡ true → AllByRecursion (EigenFits names others b.characters b.sequent) b.eigens → AllByRecursion (EigenFits names others (characters_after b a m) b.sequent) b.eigens
fit-marks names others b a no_modal new h = h
fit-marks names others b a (to v) new h = h
fit-marks names others b a (by_new n) new h = fit-new_mark names others b.characters b.sequent (record { number = n; label = new_character b a }) (not-true _ new) b.eigens h

-- the home of the introduced eigenvariable
home-named : (names : Names) (n : ℕ) (v : Label) (o : Option EigenName) → eigen_named names n ≡ o → option_map_or (λ (x : EigenName). list_eq character_eq x.home v) o false ≡ true → (x : EigenName) × (eigen_named names n ≡ Some x) × (x.home ≡ v)
home-named names n v None e h = absurd (false≢true h)
home-named names n v (Some x) e h = (x, e, (list_eq-tells character_eq character_eq-tells x.home v).0 h)

pub fit-after : (names others : Names) (b : OpenBranch) (i : ℕ) (a : Formula) (m : ModalArg) (t : TermArg) (v : Label) → character_is_new names b.sequent m ≡ true → home_is names v t ≡ true → IsListed others i t (label_image (characters_after b a m) v) → (y : Signed) (ys : List Signed) → AllByRecursion (EigenFits names others b.characters b.sequent) b.eigens → AllByRecursion (EigenFits names others (characters_after b a m) (b.sequent ++ map (entry_at v) (y ∷ ys))) (eigens_after b i t)
fit-after names others b i a m no_term v new home listed y ys h = fit-more names others (characters_after b a m) b.sequent (map (entry_at v) (y ∷ ys)) b.eigens (fit-marks names others b a m new h)
fit-after names others b i a m (by_term t) v new home listed y ys h = fit-more names others (characters_after b a m) b.sequent (map (entry_at v) (y ∷ ys)) b.eigens (fit-marks names others b a m new h)
fit-after names others b i a m (by_name n) v new home listed y ys h =
    let r = home-named names n v (eigen_named names n) refl home in (
      record {
        source = r.0;
        named = r.1;
        image = record { number = i; home = label_image (characters_after b a m) v };
        listed = listed;
        home = ap (label_image (characters_after b a m)) (sym r.2);
        stays = λ c k. any-on_right _ b.sequent (map (entry_at v) (y ∷ ys)) (let k' : holds_character c v ≡ true = subst (λ (w : Label). holds_character c w ≡ true) r.2 k in rw k' refl);
      },
      fit-more names others (characters_after b a m) b.sequent (map (entry_at v) (y ∷ ys)) b.eigens (fit-marks names others b a m new h),
    )

before : (c d : ℕ) → c < d → nat_le d c ≡ false
before c d less = elim (cases_Bool (nat_le d c)) [
  | inl e ↦ let more = leb-true d c e in absurd (omega arith)
  | inr e ↦ e
]

character-early : (b : OpenBranch) (d : ℕ) → b.count < d → (a : Formula) → list_any (is_mark_late d) (new_character b a) ≡ false
character-early b d less (atom p ts) = refl
character-early b d less (neg a) = rw (before b.count d less) refl
character-early b d less (conj a c) = rw (before b.count d less) refl
character-early b d less (disj a c) = rw (before b.count d less) refl
character-early b d less (imp a c) = rw (before b.count d less) refl
character-early b d less (all a) = rw (before b.count d less) refl
character-early b d less (ex a) = rw (before b.count d less) refl
character-early b d less (box a) = rw (before b.count d less) refl
character-early b d less (dia a) = rw (before b.count d less) refl

pub marks-after : (b : OpenBranch) (a : Formula) (m : ModalArg) (d : ℕ) → b.count < d → MarksEarly b.count b.characters → MarksEarly d (characters_after b a m)
marks-after b a no_modal d less h = marks-later b.count d (omega arith) b.characters h
marks-after b a (to v) d less h = marks-later b.count d (omega arith) b.characters h
marks-after b a (by_new n) d less h = (character-early b d less a, marks-later b.count d (omega arith) b.characters h)

pub eigens-after : (others : Names) (b : OpenBranch) (i : ℕ) (t : TermArg) (d : ℕ) (cs : List CharacterImage) (v : Label) → b.count ≤ d → MarksEarly d cs → IsListed others i t (label_image cs v) → EigensEarly others i b.count b.eigens → EigensEarly others (suc i) d (eigens_after b i t)
eigens-after others b i no_term d cs v le marks listed h = eigens-later others i (suc i) b.count d (omega arith) le b.eigens h
eigens-after others b i (by_term t) d cs v le marks listed h = eigens-later others i (suc i) b.count d (omega arith) le b.eigens h
eigens-after others b i (by_name n) d cs v le marks listed h = (rw (before i (suc i) (omega arith)) (rw listed (label-early d cs marks v)), eigens-later others i (suc i) b.count d (omega arith) le b.eigens h)
