-- The table of labels: it grows by labels that it has not, so each label has one place.
use Rattle.std.proofs.Common.{◌≡◌, ◌⊎◌, inl, inr, ℕ, zero, suc, ◌+◌, ◌-◌, ◌<◌, ◌≤◌, ◌==◌, Bool, true, false, List, [], ◌∷◌, ◌++◌, length, get_or, map, reverse, Some, rules, refl, sym, ◌∙◌, ap, subst, slice_get, arith}
use Rattle.std.proofs.lemmas.List.{length-append, length-map, map_push, get_or-map, reverse-append, reverse-reverse, append-nil}
use Rattle.std.proofs.lemmas.Bool.{false≢true}
use Rattle.std.specs.List.{position_or_len, IsDistinct, AllByRecursion}
use Rattle.std.specs.Map.{keys_of, values_of}
use Rattle.std.specs.Option.{unwrap_or}
use Rattle.indexmap.specs.IndexMap.{insert_entry}
use Rattle.plain_laws.proofs.Booleans.{same-tests}
use Rattle.calculus.specs.Derivations.{Mark, Label, new_mark, spare_mark, character_eq}
use Rattle.calculus.specs.Equality.{list_eq}
use Rattle.calculus.proofs.EqualityLaws.{character_eq-tells, list_eq-tells, nat_eq-tells}
use Rattle.label_table.specs.Chains.{chains, AreBackward}
use Rattle.label_table.specs.LabelTable.{mark_of, the_last, the_label_link, label_table, AreApart, IsRungFrom, AreRungs, IsRung}
use Rattle.label_table.specs.Longer.{IsLonger}
use Rattle.label_table.specs.LabelTable.{IsLabelAt}
use Rattle.label_table.specs.declared.labels.Link.{Link}
use Rattle.label_table.specs.declared.labels.Rung.{Rung}
use Rattle.label_table.specs.contracts.labels.LinkPartialEq.TheImpl.{eq-value}
use Rattle.label_table.proofs.ChainLaws.{chains-at, chains-first, backward-at}
use Rattle.label_table.proofs.TableLaws.{table-length, table-put, backward-put, first-empty, longer-at, longer-size, pushed-at, pushed-longer}

abbrev Item : Type 0
Item = Link × Rung

-- ---- links

link-exact : (a b : Link) → eq-value.it a b ≡ true → a ≡ b
link-exact a b h = search rules

link-self : (a : Link) → eq-value.it a a ≡ true
link-self a = search rules

abbrev is_new_mark : Mark → Bool
is_new_mark (new_mark n) = true
is_new_mark (spare_mark n) = false

abbrev number_of : Mark → ℕ
number_of (new_mark n) = n
number_of (spare_mark n) = n

mark_of-new : (b : Bool) (n : ℕ) → is_new_mark (mark_of b n) ≡ b
mark_of-new true n = refl
mark_of-new false n = refl

mark_of-number : (b : Bool) (n : ℕ) → number_of (mark_of b n) ≡ n
mark_of-number true n = refl
mark_of-number false n = refl

link-same : (a b : Link) → the_last a ≡ the_last b → a.front ≡ b.front → a ≡ b
link-same a b last front =
    let new = sym (mark_of-new a.is_new a.number) ∙ ap is_new_mark last ∙ mark_of-new b.is_new b.number in
    let number = sym (mark_of-number a.is_new a.number) ∙ ap number_of last ∙ mark_of-number b.is_new b.number in
    λ i. let l : Link = record { front = front i; is_new = new i; number = number i } in l

-- ---- no link comes twice

unlike : (k : Link) (es : List Item) (j : ℕ) (z : Mark × ℕ) → AllByRecursion (λ y. eq-value.it k y ≡ false) (keys_of es) → j < length es → get_or (map the_label_link es) j z ≡ (the_last k, k.front) → ⊥
unlike k [] j z h lt e = absurd (omega (arith, lt))
unlike k (x ∷ es) zero z h lt e =
    let same : k ≡ x.0 = sym (link-same x.0 k (ap (λ (y : Mark × ℕ). y.0) e) (ap (λ (y : Mark × ℕ). y.1) e)) in
    false≢true (sym h.0 ∙ subst (λ y. eq-value.it k y ≡ true) same (link-self k))
unlike k (x ∷ es) (suc j) z h lt e = unlike k es j z h.1 (omega (arith, lt)) e

apart-items : (es : List Item) → IsDistinct eq-value.it (keys_of es) → (i j : ℕ) (z : Mark × ℕ) → i < length es → j < length es → get_or (map the_label_link es) i z ≡ get_or (map the_label_link es) j z → i ≡ j
unfolding IsDistinct
apart-items [] d i j z hi hj e = absurd (omega (arith, hi))
apart-items (x ∷ es) d zero zero z hi hj e = refl
apart-items (x ∷ es) d zero (suc j) z hi hj e = absurd (unlike x.0 es j z d.0 (omega (arith, hj)) (sym e))
apart-items (x ∷ es) d (suc i) zero z hi hj e = absurd (unlike x.0 es i z d.0 (omega (arith, hi)) e)
apart-items (x ∷ es) d (suc i) (suc j) z hi hj e = ap suc (apart-items es d.1 i j z (omega (arith, hi)) (omega (arith, hj)) e)

pub links-apart : (es : List Item) → IsDistinct eq-value.it (keys_of es) → AreApart (map the_label_link es)
links-apart es d i j z hi hj e = let n = length-map es the_label_link in apart-items es d i j z (omega (arith, n, hi)) (omega (arith, n, hj)) e

-- ---- the labels of links

pub label-length : (es : List Item) (now : List Label) → label_table es ≡ now → length now ≡ suc (length es)
label-length es now view = sym (ap length view) ∙ length-map (chains (map the_label_link es)) reverse ∙ table-length the_label_link es (chains (map the_label_link es)) refl

label-read : (es : List Item) (now : List Label) (k : ℕ) → label_table es ≡ now → k < length now → get_or now k [] ≡ reverse (get_or (chains (map the_label_link es)) k [])
label-read es now k view h =
    let n = label-length es now view in
    let e = table-length the_label_link es (chains (map the_label_link es)) refl in
    ap (λ t. get_or t k []) (sym view) ∙ get_or-map reverse (chains (map the_label_link es)) k [] [] (omega (arith, n, e, h))

pub label-first : (es : List Item) (now : List Label) → label_table es ≡ now → get_or now 0 [] ≡ []
label-first es now view = let n = label-length es now view in label-read es now 0 view (omega (arith, n)) ∙ ap reverse (first-empty the_label_link es (chains (map the_label_link es)) refl)

pub label-some : (es : List Item) (now : List Label) → label_table es ≡ now → 0 < length now
label-some es now view = let n = label-length es now view in omega (arith, n)

reverse-more : (m : Mark) (w : Label) → reverse (m ∷ w) ≡ reverse w ++ m ∷ []
reverse-more m w = reverse-append (m ∷ []) w

label-at : (es : List Item) (now : List Label) (a : ℕ) (z : Mark × ℕ) → label_table es ≡ now → AreBackward 1 (map the_label_link es) → a < length es
    → get_or now (suc a) [] ≡ get_or now (get_or (map the_label_link es) a z).1 [] ++ (get_or (map the_label_link es) a z).0 ∷ []
label-at es now a z view back lt =
    let n = label-length es now view in
    let m = length-map es the_label_link in
    let y = get_or (map the_label_link es) a z in
    let before = backward-at 1 (map the_label_link es) a z back (omega (arith, m, lt)) in
    label-read es now (suc a) view (omega (arith, n, lt)) ∙ ap reverse (chains-at (map the_label_link es) a z back (omega (arith, m, lt)))
    ∙ reverse-more y.0 (get_or (chains (map the_label_link es)) y.1 []) ∙ ap (λ w. w ++ y.0 ∷ []) (sym (label-read es now y.1 view (omega (arith, n, lt, before))))

label-put : (es : List Item) (x : Item) (now : List Label) → label_table es ≡ now → x.0.front < length now → label_table (es ++ x ∷ []) ≡ now ++ (get_or now x.0.front [] ++ the_last x.0 ∷ []) ∷ []
label-put es x now view lt =
    let table = chains (map the_label_link es) in
    ap (map reverse) (table-put the_label_link es (es ++ x ∷ []) x table refl refl) ∙ map_push reverse table (the_last x.0 ∷ get_or table x.0.front [])
    ∙ ap (λ w. map reverse table ++ w ∷ []) (reverse-more (the_last x.0) (get_or table x.0.front []) ∙ ap (λ w. w ++ the_last x.0 ∷ []) (sym (label-read es now x.0.front view lt)))
    ∙ ap (λ t. t ++ (get_or now x.0.front [] ++ the_last x.0 ∷ []) ∷ []) view

-- ---- each label has one place

abbrev rest_of : Label → Label
rest_of [] = []
rest_of (m ∷ w) = w

nothing : (m : Mark) (w : Label) → m ∷ w ≡ [] → ⊥
nothing m w e = let n = ap length e in absurd (omega (arith, n))

abbrev no_link : Mark × ℕ
no_link = (new_mark 0, 0)

one-chain : (xs : List (Mark × ℕ)) → AreBackward 1 xs → AreApart xs → (w : Label) (i j : ℕ) → i ≤ length xs → j ≤ length xs → get_or (chains xs) i [] ≡ w → get_or (chains xs) j [] ≡ w → i ≡ j
one-chain xs back apart [] zero zero hi hj e g = refl
one-chain xs back apart [] zero (suc j) hi hj e g = absurd (nothing _ _ (sym (chains-at xs j no_link back (omega (arith, hj))) ∙ g))
one-chain xs back apart [] (suc i) j hi hj e g = absurd (nothing _ _ (sym (chains-at xs i no_link back (omega (arith, hi))) ∙ e))
one-chain xs back apart (m ∷ w) zero j hi hj e g = absurd (nothing m w (sym e ∙ chains-first xs))
one-chain xs back apart (m ∷ w) (suc i) zero hi hj e g = absurd (nothing m w (sym g ∙ chains-first xs))
one-chain xs back apart (m ∷ w) (suc i) (suc j) hi hj e g =
    let lt : i < length xs = omega (arith, hi) in
    let less : j < length xs = omega (arith, hj) in
    let x = get_or xs i no_link in
    let y = get_or xs j no_link in
    let first = sym (chains-at xs i no_link back lt) ∙ e in
    let second = sym (chains-at xs j no_link back less) ∙ g in
    let a = backward-at 1 xs i no_link back lt in
    let b = backward-at 1 xs j no_link back less in
    let fronts : x.1 ≡ y.1 = one-chain xs back apart w x.1 y.1 (omega (arith, a, lt)) (omega (arith, b, less)) (ap rest_of first) (ap rest_of second) in
    let marks : x.0 ≡ y.0 = ap (λ l. get_or l 0 m) first ∙ sym (ap (λ l. get_or l 0 m) second) in
    ap suc (apart i j no_link lt less (λ k. (marks k, fronts k)))

pub label-one : (es : List Item) (now : List Label) (i j : ℕ) → label_table es ≡ now → AreBackward 1 (map the_label_link es) → AreApart (map the_label_link es) → i < length now → j < length now → get_or now i [] ≡ get_or now j [] → i ≡ j
label-one es now i j view back apart hi hj e =
    let n = label-length es now view in
    let m = length-map es the_label_link in
    let table = chains (map the_label_link es) in
    let turned = sym (label-read es now i view hi) ∙ e ∙ label-read es now j view hj in
    let same : get_or table i [] ≡ get_or table j [] = sym (reverse-reverse (get_or table i [])) ∙ ap reverse turned ∙ reverse-reverse (get_or table j []) in
    one-chain (map the_label_link es) back apart (get_or table j []) i j (omega (arith, n, m, hi)) (omega (arith, n, m, hj)) same refl

pub label-equal : (es : List Item) (now : List Label) (i j : ℕ) → label_table es ≡ now → AreBackward 1 (map the_label_link es) → AreApart (map the_label_link es) → i < length now → j < length now → (i == j) ≡ list_eq character_eq (get_or now i []) (get_or now j [])
label-equal es now i j view back apart hi hj =
    let tells = list_eq-tells character_eq character_eq-tells (get_or now i []) (get_or now j []) in
    same-tests (i == j) (list_eq character_eq (get_or now i []) (get_or now j []))
    (λ e. tells.1 (ap (λ k. get_or now k []) ((nat_eq-tells i j).0 e)))
    (λ e. (nat_eq-tells i j).1 (label-one es now i j view back apart hi hj (tells.0 e)))

-- ---- a link is put in

abbrev Stays : List Item → Link → Rung → Type 0
Stays es k v = (position_or_len (eq-value.it k) (keys_of es) < length es)
    × (map the_label_link (insert_entry eq-value.it es k v) ≡ map the_label_link es)
    × ((z : Mark × ℕ) → get_or (map the_label_link es) (position_or_len (eq-value.it k) (keys_of es)) z ≡ (the_last k, k.front))

abbrev Comes : List Item → Link → Rung → Type 0
Comes es k v = (position_or_len (eq-value.it k) (keys_of es) ≡ length es) × (insert_entry eq-value.it es k v ≡ es ++ (k, v) ∷ [])

inserted : (es : List Item) (k : Link) (v : Rung) → Stays es k v ⊎ Comes es k v
inserted [] k v = inr (refl, refl)
inserted (x ∷ es) k v = by (eq-value.it k x.0) refl (inserted es k v)
  where
    by : (b : Bool) → eq-value.it k x.0 ≡ b → Stays es k v ⊎ Comes es k v → Stays (x ∷ es) k v ⊎ Comes (x ∷ es) k v
    by true e h = rw e (inl (omega arith, refl, λ z. ap (λ l. (the_last l, l.front)) (sym (link-exact k x.0 e))))
    by false e (inl h) =
        let lt = h.0 in
        let p = position_or_len (eq-value.it k) (keys_of es) in
        let one : 1 + p ≡ suc p = omega arith in
        rw e (inl (omega (arith, lt), ap (λ l. the_label_link x ∷ l) h.1, λ z. ap (λ i. get_or (map the_label_link (x ∷ es)) i z) one ∙ h.2 z))
    by false e (inr h) = rw e (inr (let n = h.0 in omega (arith, n), ap (λ l. x ∷ l) h.1))

module _ (es : List Item) (k : Link) (v : Rung) (now : List Label) (view : label_table es ≡ now) (back : AreBackward 1 (map the_label_link es)) (within : k.front < length now) where
  abbrev place : ℕ
  place = position_or_len (eq-value.it k) (keys_of es)

  abbrev after : List Item
  after = insert_entry eq-value.it es k v

  pub put-longer : IsLonger now (label_table after)
  put-longer = by (inserted es k v)
    where
      by : Stays es k v ⊎ Comes es k v → IsLonger now (label_table after)
      by (inl h) = ([], ap (λ l. map reverse (chains l)) h.1 ∙ view ∙ sym (append-nil now))
      by (inr h) = pushed-longer now (label_table after) (get_or now k.front [] ++ the_last k ∷ []) (ap label_table h.1 ∙ label-put es (k, v) now view within)

  pub put-at : (n : ℕ) → n ≡ suc place → IsLabelAt (label_table after) n (get_or now k.front [] ++ the_last k ∷ [])
  put-at n e = by (inserted es k v)
    where
      by : Stays es k v ⊎ Comes es k v → IsLabelAt (label_table after) n (get_or now k.front [] ++ the_last k ∷ [])
      by (inl h) =
          let size = label-length es now view in
          let lt = h.0 in
          let same : label_table after ≡ now = ap (λ l. map reverse (chains l)) h.1 ∙ view in
          let link = h.2 no_link in
          let at = label-at es now place no_link view back lt ∙ ap (λ (y : Mark × ℕ). get_or now y.1 [] ++ y.0 ∷ []) link in
          (subst (λ t. n < length t) (sym same) (omega (arith, size, lt, e)), ap (λ t. get_or t n []) same ∙ ap (λ m. get_or now m []) e ∙ at)
      by (inr h) =
          let size = label-length es now view in
          let n = h.0 in
          pushed-at now (label_table after) _ (get_or now k.front [] ++ the_last k ∷ []) [] (e ∙ omega (arith, size, n)) (ap label_table h.1 ∙ label-put es (k, v) now view within)

  pub put-backward : AreBackward 1 (map the_label_link after)
  put-backward = by (inserted es k v)
    where
      by : Stays es k v ⊎ Comes es k v → AreBackward 1 (map the_label_link after)
      by (inl h) = subst (AreBackward 1) (sym h.1) back
      by (inr h) =
          let size = label-length es now view in
          let table = table-length the_label_link es (chains (map the_label_link es)) refl in
          backward-put the_label_link es after (k, v) (chains (map the_label_link es)) h.1 refl (omega (arith, size, table, within)) back

-- ---- ways to beginnings

rung-longer : (now more : List Label) (front : ℕ) (r : Rung) → IsLonger now more → IsRungFrom now front r → IsRungFrom more front r
rung-longer now more front r long h =
    let lt = h.within in
    let jump = h.jump in
    let same : get_or more front [] ≡ get_or now front [] = longer-at now more front [] long lt in
    let before : get_or more r.jump [] ≡ get_or now r.jump [] = longer-at now more r.jump [] long (omega (arith, lt, jump)) in
    let size = longer-size now more long in
    record {
      place = h.place;
      within = omega (arith, lt, size);
      size = h.size ∙ ap (λ (w : Label). suc (length w)) (sym same);
      jump = h.jump;
      earlier = (h.earlier.0, same ∙ h.earlier.1 ∙ ap (λ w. w ++ h.earlier.0) (sym before));
    }

rungs-longer : (now more : List Label) (es : List Item) → IsLonger now more → AreRungs now es → AreRungs more es
rungs-longer now more [] long h = tt
rungs-longer now more (x ∷ es) long h = (rung-longer now more x.0.front x.1 long h.0, rungs-longer now more es long h.1)

rungs-insert : (now : List Label) (es : List Item) (k : Link) (v : Rung) → IsRungFrom now k.front v → AreRungs now es → AreRungs now (insert_entry eq-value.it es k v)
rungs-insert now [] k v g h = (g, tt)
rungs-insert now (x ∷ es) k v g h = by (eq-value.it k x.0) refl (rungs-insert now es k v g h.1)
  where
    by : (b : Bool) → eq-value.it k x.0 ≡ b → AreRungs now (insert_entry eq-value.it es k v) → AreRungs now (insert_entry eq-value.it (x ∷ es) k v)
    by true e rest = rw e (subst (λ (l : Link). IsRungFrom now l.front v) (link-exact k x.0 e) g, h.1)
    by false e rest = rw e (h.0, rest)

pub put-rungs : (now : List Label) (es : List Item) (k : Link) (v : Rung) → IsLonger now (label_table (insert_entry eq-value.it es k v)) → IsRungFrom now k.front v → AreRungs now es → AreRungs (label_table (insert_entry eq-value.it es k v)) (insert_entry eq-value.it es k v)
put-rungs now es k v long g h = rungs-longer now (label_table (insert_entry eq-value.it es k v)) (insert_entry eq-value.it es k v) long (rungs-insert now es k v g h)

rung-there : (now : List Label) (es : List Item) (i : ℕ) (v : Rung) (z : Mark × ℕ) → AreRungs now es → i < length es → slice_get (values_of es) i ≡ Some v → ((get_or (map the_label_link es) i z).1 ≡ v.front) × IsRungFrom now v.front v
rung-there now [] i v z h lt e = absurd (omega (arith, lt))
rung-there now (x ∷ es) zero v z h lt e =
    let same : x.1 ≡ v = ap (λ o. unwrap_or o x.1) e in
    let rung : IsRungFrom now x.0.front v = subst (IsRungFrom now x.0.front) same h.0 in
    (sym rung.place, subst (λ f. IsRungFrom now f v) (sym rung.place) rung)
rung-there now (x ∷ es) (suc i) v z h lt e = rung-there now es i v z h.1 (omega (arith, lt)) e

pub rung-shown : (es : List Item) (now : List Label) (place : ℕ) (v : Rung) → label_table es ≡ now → AreBackward 1 (map the_label_link es) → AreRungs (label_table es) es → 0 < place → place < length now → slice_get (values_of es) (place - 1) ≡ Some v → IsRung now place v
rung-shown es now place v view back rungs pos lt read =
    let size = label-length es now view in
    let links = length-map es the_label_link in
    let a = place - 1 in
    let less : a < length es = omega (arith, size, lt, pos) in
    let there = rung-there now es a v no_link (subst (λ t. AreRungs t es) view rungs) less read in
    let rung = there.1 in
    let before = backward-at 1 (map the_label_link es) a no_link back (omega (arith, links, less)) in
    let front = there.0 in
    let last = (get_or (map the_label_link es) a no_link).0 in
    let whole : get_or now place [] ≡ get_or now v.front [] ++ last ∷ [] =
    ap (λ n. get_or now n []) (let one : place ≡ suc a = omega (arith, pos) in one) ∙ label-at es now a no_link view back less ∙ ap (λ n. get_or now n [] ++ last ∷ []) front in
    let long : length (get_or now place []) ≡ suc (length (get_or now v.front [])) = let n = ap length whole ∙ length-append (get_or now v.front []) (last ∷ []) in omega (arith, n) in
    record {
      size = rung.size ∙ sym long;
      front = omega (arith, before, front, pos);
      before = λ _. omega (arith, before, front, pos);
      jump = rung.jump;
      begins = (last ∷ [], whole);
      next = omega (arith, long);
      earlier = rung.earlier;
    }

item-link : (es : List Item) (i : ℕ) (x : Item) (z : Mark × ℕ) → slice_get es i ≡ Some x → get_or (map the_label_link es) i z ≡ the_label_link x
item-link [] i x z e = absurd cc
item-link (y ∷ es) zero x z e = ap (λ o. the_label_link (unwrap_or o y)) e
item-link (y ∷ es) (suc i) x z e = item-link es i x z e

pub last-shown : (es : List Item) (now : List Label) (place : ℕ) (x : Item) (m : Mark) → label_table es ≡ now → AreBackward 1 (map the_label_link es) → 0 < place → place < length now → slice_get es (place - 1) ≡ Some x → m ≡ the_last x.0 → (x.0.front < place) × (get_or now place [] ≡ get_or now x.0.front [] ++ m ∷ [])
last-shown es now place x m view back pos lt read last =
    let size = label-length es now view in
    let links = length-map es the_label_link in
    let a = place - 1 in
    let less : a < length es = omega (arith, size, lt, pos) in
    let link = item-link es a x no_link read in
    let before = backward-at 1 (map the_label_link es) a no_link back (omega (arith, links, less)) in
    let front = ap (λ (y : Mark × ℕ). y.1) link in
    let one : place ≡ suc a = omega (arith, pos) in (
      omega (arith, before, front, pos),
      ap (λ n. get_or now n []) one ∙ label-at es now a no_link view back less ∙ ap (λ (y : Mark × ℕ). get_or now y.1 [] ++ y.0 ∷ []) link ∙ ap (λ k. get_or now x.0.front [] ++ k ∷ []) (sym last),
    )

same-longer : (w v : Label) → w ≡ v → IsLonger w v
same-longer w v e = ([], sym e ∙ sym (append-nil w))

pub root-rung : (now : List Label) (place : ℕ) (r : Rung) → place ≡ 0 → get_or now 0 [] ≡ [] → r.front ≡ 0 → r.length ≡ 0 → r.jump ≡ 0 → IsRung now place r
root-rung now place r none first front size jump =
    let here : get_or now place [] ≡ [] = ap (λ n. get_or now n []) none ∙ first in
    let there : get_or now r.front [] ≡ [] = ap (λ n. get_or now n []) front ∙ first in
    let further : get_or now r.jump [] ≡ [] = ap (λ n. get_or now n []) jump ∙ first in
    let short = ap length here in
    record {
      size = size ∙ sym short;
      front = omega (arith, front);
      before = λ h. absurd (omega (arith, h, size));
      jump = omega (arith, front, jump);
      begins = same-longer _ _ (there ∙ sym here);
      next = omega (arith, short);
      earlier = same-longer _ _ (further ∙ sym there);
    }

-- ---- what `extend` leaves

module _ (es after : List Item) (k : Link) (v : Rung) (now : List Label) (front : ℕ) (view : label_table es ≡ now) (back : AreBackward 1 (map the_label_link es)) (within : front < length now) (same : k.front ≡ front) (grown : after ≡ insert_entry eq-value.it es k v) where
  first-within : k.front < length now
  first-within = omega (arith, same, within)

  pub extended-longer : IsLonger now (label_table after)
  extended-longer = subst (λ l. IsLonger now (label_table l)) (sym grown) (put-longer es k v now view back first-within)

  pub extended-at : (index : ℕ) (m : Mark) → the_last k ≡ m → index ≡ position_or_len (eq-value.it k) (keys_of es) → IsLabelAt (label_table after) (index + 1) (get_or now front [] ++ m ∷ [])
  extended-at index m last at =
      let there = put-at es k v now view back first-within (index + 1) (omega (arith, at)) in
      subst (λ l. IsLabelAt (label_table l) (index + 1) (get_or now front [] ++ m ∷ [])) (sym grown)
      (subst (λ n. IsLabelAt (label_table (insert_entry eq-value.it es k v)) (index + 1) (get_or now n [] ++ m ∷ [])) same
      (subst (λ l. IsLabelAt (label_table (insert_entry eq-value.it es k v)) (index + 1) (get_or now k.front [] ++ l ∷ [])) last there))

  pub extended-kept : AreRungs (label_table es) es → IsRungFrom now front v → IsDistinct eq-value.it (keys_of after) → AreBackward 1 (map the_label_link after) × AreApart (map the_label_link after) × AreRungs (label_table after) after
  extended-kept rungs rung distinct =
      let kept = put-rungs now es k v (put-longer es k v now view back first-within) (subst (λ n. IsRungFrom now n v) (sym same) rung) (subst (λ t. AreRungs t es) view rungs) in
      (subst (λ l. AreBackward 1 (map the_label_link l)) (sym grown) (put-backward es k v now view back first-within), links-apart after distinct, subst (λ l. AreRungs (label_table l) l) (sym grown) kept)
