-- Tokens: the code's way takes one, and no less than any that the bytes begin with.
use Rattle.std.proofs.Common.{◌≡◌, ℕ, List, [], ◌∷◌, ◌++◌, Bool, true, false, ◌||◌, ◌==◌, IsTrue, Option, None, Some, refl, sym, ◌∙◌, ap, subst, if◌then◌else◌, append_assoc, arith}
use Rattle.std.specs.List.{list_all}
use Rattle.std.specs.Option.{option_map}
use Rattle.std.proofs.lemmas.Bool.{false≢true, and_parts, and_from, eqb-true}
use Rattle.std.proofs.lemmas.Bool.Decides.{nat_tests}
use Rattle.plain_laws.proofs.Options.{none_some}
use Rattle.calculus.specs.Text.{is_digit, is_lower, is_lower_word, is_space, is_upper, is_word_byte}
use Rattle.tptp_lex.specs.declared.tokens.TokenKind.{TokenKind}
use Rattle.tptp_lex.specs.declared.tokens.TokenKind.TheVariants.{Lower, Upper, Dollar, Hash, Quoted, Distinct, Number, Sign}
use Rattle.tptp_lex.specs.Scanning.{after_byte, after_kind, after_lower, after_name, after_number, after_number_sign, after_quoted, after_run, after_space, after_token, is_number_sign, kind_at}
use Rattle.tptp_lex.specs.Tokens.{IsNumberSign, no_sign, plus, minus, IsToken, lower, upper, dollar, two_dollars, hash, quoted, distinct, number, sign, is_digits}
use Rattle.tptp_lex.proofs.NumberLaws.{digit-no-sign, NumberTaken, number-over, number-split}
use Rattle.tptp_lex.proofs.Runs.{both-cons, lower-over, lower-split, run-over, run-shorter, run-split, some-is}
use Rattle.tptp_lex.proofs.QuoteLaws.{name-over, not-empty, quotable-over, quoted-split}
use Rattle.tptp_lex.proofs.SignLaws.{Reaches, exact, sign-no-space, sign-over, sign-split}

-- ---- a token is taken whole

lower-kind : (b : ℕ) → is_lower b ≡ true → kind_at b ≡ Lower
lower-kind b h = rw h refl

lower-no-upper : (b : ℕ) → is_upper b ≡ true → is_lower b ≡ false
lower-no-upper b h = grind (arith, nat_tests)

lower-no-digit : (b : ℕ) → is_digit b ≡ true → is_lower b ≡ false
lower-no-digit b h = grind (arith, nat_tests)

upper-no-digit : (b : ℕ) → is_digit b ≡ true → is_upper b ≡ false
upper-no-digit b h = grind (arith, nat_tests)

upper-kind : (b : ℕ) → is_upper b ≡ true → kind_at b ≡ Upper
upper-kind b h = rw (lower-no-upper b h, h) refl

digit-kind : (b : ℕ) → is_digit b ≡ true → kind_at b ≡ Number
digit-kind b h = rw (lower-no-digit b h, upper-no-digit b h, h) refl

taken-by : (kind : TokenKind) (b : ℕ) (bs after : List ℕ) → kind_at b ≡ kind → after_kind kind b bs ≡ Some after → after_token (b ∷ bs) ≡ Some (kind, after)
taken-by kind b bs after e h =
    ap (λ k. option_map (λ rest. (k, rest)) (after_kind k b bs)) e ∙ ap (option_map (λ rest. (kind, rest))) h

number-reaches : (s ds e rest : List ℕ) → IsNumberSign s → IsTrue (is_digits ds) → NumberTaken ((ds ++ e) ++ rest) rest → Reaches Number ((s ++ (ds ++ e)) ++ rest) rest
number-reaches _ [] e rest no_sign hd n = absurd (false≢true hd)
number-reaches _ (d ∷ ds) e rest no_sign hd n =
    let h = (and_parts (is_digit d) (list_all is_digit ds) hd).0 in
    record {
      after = n.after;
      taken = taken-by Number d ((ds ++ e) ++ rest) n.after (digit-kind d h) (rw (digit-no-sign d h) n.taken);
      not_longer = n.not_longer;
    }
number-reaches _ ds e rest plus hd n = record { after = n.after; taken = ap (option_map (λ rest. (Number, rest))) n.taken; not_longer = n.not_longer }
number-reaches _ ds e rest minus hd n = record { after = n.after; taken = ap (option_map (λ rest. (Number, rest))) n.taken; not_longer = n.not_longer }

-- a Lower word begins with no `$`
lower-after-byte : (w rest : List ℕ) → IsTrue (is_lower_word w) → after_byte 36 (w ++ rest) ≡ w ++ rest
lower-after-byte [] rest h = absurd (false≢true h)
lower-after-byte (b ∷ bs) rest h = rw (by b (and_parts (is_lower b) (list_all is_word_byte bs) h).0) refl
  where
    by : (b : ℕ) → is_lower b ≡ true → (b == 36) ≡ false
    by b h = grind (arith, nat_tests)

pub token-over : (kind : TokenKind) (w rest : List ℕ) → IsToken kind w → Reaches kind (w ++ rest) rest
token-over _ _ rest (lower [] h) = absurd (false≢true h)
token-over _ _ rest (lower (b ∷ bs) h) =
    let parts = and_parts (is_lower b) (list_all is_word_byte bs) h in
    record {
      after = after_run is_word_byte rest;
      taken = taken-by Lower b (bs ++ rest) (after_run is_word_byte rest) (lower-kind b parts.0) (ap Some (run-over is_word_byte bs rest parts.1));
      not_longer = run-shorter is_word_byte rest;
    }
token-over _ _ rest (upper [] h) = absurd (false≢true h)
token-over _ _ rest (upper (b ∷ bs) h) =
    let parts = and_parts (is_upper b) (list_all is_word_byte bs) h in
    record {
      after = after_run is_word_byte rest;
      taken = taken-by Upper b (bs ++ rest) (after_run is_word_byte rest) (upper-kind b parts.0) (ap Some (run-over is_word_byte bs rest parts.1));
      not_longer = run-shorter is_word_byte rest;
    }
token-over _ _ rest (dollar w h) = record {
  after = after_run is_word_byte rest;
  taken = taken-by Dollar 36 (w ++ rest) (after_run is_word_byte rest) refl (ap after_lower (lower-after-byte w rest h) ∙ lower-over w rest h);
  not_longer = run-shorter is_word_byte rest;
}
token-over _ _ rest (two_dollars w h) = record {
  after = after_run is_word_byte rest;
  taken = taken-by Dollar 36 (36 ∷ (w ++ rest)) (after_run is_word_byte rest) refl (lower-over w rest h);
  not_longer = run-shorter is_word_byte rest;
}
token-over _ _ rest (hash w h) = record {
  after = after_run is_word_byte rest;
  taken = taken-by Hash 35 (w ++ rest) (after_run is_word_byte rest) refl (lower-over w rest h);
  not_longer = run-shorter is_word_byte rest;
}
token-over _ _ rest (quoted bs n q) =
    exact Quoted (39 ∷ ((bs ++ 39 ∷ []) ++ rest)) rest (taken-by Quoted 39 ((bs ++ 39 ∷ []) ++ rest) rest refl (ap after_name (append_assoc bs (39 ∷ []) rest) ∙ name-over bs rest n q))
token-over _ _ rest (distinct bs q) =
    exact Distinct (34 ∷ ((bs ++ 34 ∷ []) ++ rest)) rest (taken-by Distinct 34 ((bs ++ 34 ∷ []) ++ rest) rest refl (ap (after_quoted 34 false) (append_assoc bs (34 ∷ []) rest) ∙ quotable-over 34 bs rest refl q))
token-over _ _ rest (number s ds e hs hd he) = number-reaches s ds e rest hs hd (number-over ds e rest hd he)
token-over _ _ rest (sign w h) = sign-over w rest h

-- ---- what is taken is a token

pub record Takes (kind : TokenKind) (bytes rest : List ℕ) : Type 0 where
  pub front : List ℕ
  pub split : bytes ≡ front ++ rest
  pub is_token : IsToken kind front

dollar-takes : (b : ℕ) (bs rest : List ℕ) → b ≡ 36 → after_lower (after_byte 36 bs) ≡ Some rest → Takes Dollar (b ∷ bs) rest
dollar-takes b [] rest e h = absurd (none_some h)
dollar-takes b (c ∷ bs) rest e h = by (c == 36) refl h
  where
    by : (t : Bool) → (c == 36) ≡ t → after_lower (if t then bs else c ∷ bs) ≡ Some rest → Takes Dollar (b ∷ c ∷ bs) rest
    by true f h = let s = lower-split bs rest h in record { front = 36 ∷ 36 ∷ s.front; split = both-cons e (both-cons (eqb-true c 36 f) s.whole); is_token = two_dollars s.front s.passes }
    by false f h = let s = lower-split (c ∷ bs) rest h in record { front = 36 ∷ s.front; split = both-cons e s.whole; is_token = dollar s.front s.passes }

name-takes : (b : ℕ) (bs rest : List ℕ) → b ≡ 39 → after_name bs ≡ Some rest → Takes Quoted (b ∷ bs) rest
name-takes b [] rest e h = absurd (none_some h)
name-takes b (c ∷ bs) rest e h = by (c == 39) refl h
  where
    by : (t : Bool) → (c == 39) ≡ t → (if t then None else after_quoted 39 false (c ∷ bs)) ≡ Some rest → Takes Quoted (b ∷ c ∷ bs) rest
    by true f h = absurd (none_some h)
    by false f h =
        let s = quoted-split 39 false (c ∷ bs) rest h in
        record {
          front = 39 ∷ (s.body ++ 39 ∷ []);
          split = both-cons e (s.split ∙ sym (append_assoc s.body (39 ∷ []) rest));
          is_token = quoted s.body (not-empty 39 c bs s.body rest f s.split) s.quotable;
        }

distinct-takes : (b : ℕ) (bs rest : List ℕ) → b ≡ 34 → after_quoted 34 false bs ≡ Some rest → Takes Distinct (b ∷ bs) rest
distinct-takes b bs rest e h =
    let s = quoted-split 34 false bs rest h in
    record { front = 34 ∷ (s.body ++ 34 ∷ []); split = both-cons e (s.split ∙ sym (append_assoc s.body (34 ∷ []) rest)); is_token = distinct s.body s.quotable }

number-takes : (b : ℕ) (bs rest : List ℕ) → after_number (after_number_sign (b ∷ bs)) ≡ Some rest → Takes Number (b ∷ bs) rest
number-takes b bs rest h = by (b == 43) (b == 45) refl refl h
  where
    made : (s : List ℕ) (x : List ℕ) → IsNumberSign s → b ∷ bs ≡ s ++ x → after_number x ≡ Some rest → Takes Number (b ∷ bs) rest
    made s x hs e h =
        let n = number-split x rest h in
        record { front = s ++ (n.digits ++ n.end); split = e ∙ ap (λ y. s ++ y) n.split ∙ sym (append_assoc s (n.digits ++ n.end) rest); is_token = number s n.digits n.end hs n.are_digits n.is_end }

    by : (p m : Bool) → (b == 43) ≡ p → (b == 45) ≡ m → after_number (if p || m then bs else b ∷ bs) ≡ Some rest → Takes Number (b ∷ bs) rest
    by true m e f h = made (43 ∷ []) bs plus (both-cons (eqb-true b 43 e) refl) h
    by false true e f h = made (45 ∷ []) bs minus (both-cons (eqb-true b 45 f) refl) h
    by false false e f h = made [] (b ∷ bs) no_sign refl h

upper-takes : (b : ℕ) (bs rest : List ℕ) → is_upper b ≡ true → Some (after_run is_word_byte bs) ≡ Some rest → Takes Upper (b ∷ bs) rest
upper-takes b bs rest e h =
    let s = run-split is_word_byte bs in
    record { front = b ∷ s.front; split = both-cons refl (s.whole ∙ ap (λ r. s.front ++ r) (some-is h)); is_token = upper (b ∷ s.front) (and_from (is_upper b) (list_all is_word_byte s.front) e s.all) }

lower-takes : (b : ℕ) (bs rest : List ℕ) → is_lower b ≡ true → Some (after_run is_word_byte bs) ≡ Some rest → Takes Lower (b ∷ bs) rest
lower-takes b bs rest e h =
    let s = run-split is_word_byte bs in
    record { front = b ∷ s.front; split = both-cons refl (s.whole ∙ ap (λ r. s.front ++ r) (some-is h)); is_token = lower (b ∷ s.front) (and_from (is_lower b) (list_all is_word_byte s.front) e s.all) }

-- the kind at a byte, by the answers of its tests
abbrev kind_by : Bool → Bool → Bool → Bool → Bool → Bool → Bool → TokenKind
kind_by l u n d h q s =
    if l then Lower else (if u then Upper else (if n then Number else (if d then Dollar else (if h then Hash else (if q then Quoted else (if s then Distinct else Sign))))))

kind-takes : (b : ℕ) (bs rest : List ℕ) → after_kind (kind_at b) b bs ≡ Some rest → Takes (kind_at b) (b ∷ bs) rest
kind-takes b bs rest h = by (is_lower b) (is_upper b) (is_digit b || is_number_sign b) (b == 36) (b == 35) (b == 39) (b == 34) refl refl refl refl refl refl h
  where
    by : (l u n d x q s : Bool) → is_lower b ≡ l → is_upper b ≡ u → (b == 36) ≡ d → (b == 35) ≡ x → (b == 39) ≡ q → (b == 34) ≡ s
        → after_kind (kind_by l u n d x q s) b bs ≡ Some rest → Takes (kind_by l u n d x q s) (b ∷ bs) rest
    by true u n d x q s hl hu hd hx hq hs h = lower-takes b bs rest hl h
    by false true n d x q s hl hu hd hx hq hs h = upper-takes b bs rest hu h
    by false false true d x q s hl hu hd hx hq hs h = number-takes b bs rest h
    by false false false true x q s hl hu hd hx hq hs h = dollar-takes b bs rest (eqb-true b 36 hd) h
    by false false false false true q s hl hu hd hx hq hs h =
        let k = lower-split bs rest h in
        record { front = 35 ∷ k.front; split = both-cons (eqb-true b 35 hx) k.whole; is_token = hash k.front k.passes }
    by false false false false false true s hl hu hd hx hq hs h = name-takes b bs rest (eqb-true b 39 hq) h
    by false false false false false false true hl hu hd hx hq hs h = distinct-takes b bs rest (eqb-true b 34 hs) h
    by false false false false false false false hl hu hd hx hq hs h =
        let k = sign-split b bs rest h in
        record { front = k.front; split = k.split; is_token = sign k.front k.is_sign }

pub token-split : (kind : TokenKind) (bytes rest : List ℕ) → after_token bytes ≡ Some (kind, rest) → Takes kind bytes rest
token-split kind [] rest h = absurd (none_some h)
token-split kind (b ∷ bs) rest h = by (after_kind (kind_at b) b bs) refl h
  where
    by : (o : Option (List ℕ)) → after_kind (kind_at b) b bs ≡ o → option_map {U = TokenKind × List ℕ} (λ r. (kind_at b, r)) o ≡ Some (kind, rest) → Takes kind (b ∷ bs) rest
    by None e h = absurd (none_some h)
    by (Some r) e h =
        let p = some-is h in
        subst (λ k. Takes k (b ∷ bs) rest) (ap (λ x. x.0) p) (kind-takes b bs rest (e ∙ ap (λ x. Some x.1) p))

-- ---- a token begins with no space and no comment

no-space : (b : ℕ) (bs : List ℕ) → is_space b ≡ false → (b == 37) ≡ false → (b == 47) ≡ false → after_space (b ∷ bs) ≡ None
no-space b bs s l k = rw (s, l, k) refl

lower-no-space : (b : ℕ) (bs : List ℕ) → is_lower b ≡ true → after_space (b ∷ bs) ≡ None
lower-no-space b bs h = no-space b bs (grind (arith, nat_tests)) (grind (arith, nat_tests)) (grind (arith, nat_tests))

upper-no-space : (b : ℕ) (bs : List ℕ) → is_upper b ≡ true → after_space (b ∷ bs) ≡ None
upper-no-space b bs h = no-space b bs (grind (arith, nat_tests)) (grind (arith, nat_tests)) (grind (arith, nat_tests))

digit-no-space : (b : ℕ) (bs : List ℕ) → is_digit b ≡ true → after_space (b ∷ bs) ≡ None
digit-no-space b bs h = no-space b bs (grind (arith, nat_tests)) (grind (arith, nat_tests)) (grind (arith, nat_tests))

number-no-space : (s ds e rest : List ℕ) → IsNumberSign s → IsTrue (is_digits ds) → after_space ((s ++ (ds ++ e)) ++ rest) ≡ None
number-no-space _ [] e rest no_sign h = absurd (false≢true h)
number-no-space _ (d ∷ ds) e rest no_sign h = digit-no-space d ((ds ++ e) ++ rest) (and_parts (is_digit d) (list_all is_digit ds) h).0
number-no-space _ ds e rest plus h = refl
number-no-space _ ds e rest minus h = refl

pub token-no-space : (kind : TokenKind) (w rest : List ℕ) → IsToken kind w → after_space (w ++ rest) ≡ None
token-no-space _ _ rest (lower [] h) = absurd (false≢true h)
token-no-space _ _ rest (lower (b ∷ bs) h) = lower-no-space b (bs ++ rest) (and_parts (is_lower b) (list_all is_word_byte bs) h).0
token-no-space _ _ rest (upper [] h) = absurd (false≢true h)
token-no-space _ _ rest (upper (b ∷ bs) h) = upper-no-space b (bs ++ rest) (and_parts (is_upper b) (list_all is_word_byte bs) h).0
token-no-space _ _ rest (dollar w h) = refl
token-no-space _ _ rest (two_dollars w h) = refl
token-no-space _ _ rest (hash w h) = refl
token-no-space _ _ rest (quoted bs n q) = refl
token-no-space _ _ rest (distinct bs q) = refl
token-no-space _ _ rest (number s ds e hs hd he) = number-no-space s ds e rest hs hd
token-no-space _ _ rest (sign w h) = sign-no-space w rest h
