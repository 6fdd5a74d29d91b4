-- Numbers: the code's way takes one, and no less than any that the bytes begin with.
use Rattle.std.proofs.Common.{◌≡◌, ℕ, ◌≤◌, List, [], ◌∷◌, ◌++◌, Bool, true, false, ◌||◌, ◌==◌, IsTrue, Option, None, Some, inl, inr, ◌⊎◌, refl, sym, ◌∙◌, ap, subst, length, if◌then◌else◌, append_assoc, arith}
use Rattle.std.specs.List.{list_all}
use Rattle.std.specs.Option.{option_map, unwrap_or}
use Rattle.std.proofs.lemmas.Bool.{false≢true, and_parts, eqb-true}
use Rattle.std.proofs.lemmas.Bool.Decides.{nat_tests}
use Rattle.plain_laws.proofs.Options.{none_some}
use Rattle.calculus.specs.Text.{is_digit}
use Rattle.tptp_lex.specs.Scanning.{after_digits, after_exponent, after_number, after_number_end, after_number_sign, after_part, after_run, begins_with, is_number_sign}
use Rattle.tptp_lex.specs.Tokens.{IsExponent, small, capital, IsNumberEnd, whole, rational, decimal, whole_exponent, decimal_exponent, IsNumberSign, no_sign, plus, minus, is_digits}
use Rattle.tptp_lex.proofs.Runs.{both-cons, digits-over, digits-split, run-shorter, some-is}

pub digit-no-sign : (b : ℕ) → is_digit b ≡ true → is_number_sign b ≡ false
digit-no-sign b h = grind (arith, nat_tests)

-- ---- a number is taken whole

digits-unsigned : (ds rest : List ℕ) → IsTrue (is_digits ds) → after_number_sign (ds ++ rest) ≡ ds ++ rest
digits-unsigned [] rest h = absurd (false≢true h)
digits-unsigned (b ∷ bs) rest h = rw (digit-no-sign b (and_parts (is_digit b) (list_all is_digit bs) h).0) refl

signed-over : (s ds rest : List ℕ) → IsNumberSign s → IsTrue (is_digits ds) → after_digits (after_number_sign ((s ++ ds) ++ rest)) ≡ Some (after_run is_digit rest)
signed-over _ ds rest no_sign h = ap after_digits (digits-unsigned ds rest h) ∙ digits-over ds rest h
signed-over _ ds rest plus h = digits-over ds rest h
signed-over _ ds rest minus h = digits-over ds rest h

exponent-over : (e rest : List ℕ) → IsExponent e → after_exponent (after_run is_digit (e ++ rest)) ≡ after_run is_digit rest
exponent-over _ rest (small s ds hs hd) = ap (λ o. unwrap_or o (101 ∷ ((s ++ ds) ++ rest))) (signed-over s ds rest hs hd)
exponent-over _ rest (capital s ds hs hd) = ap (λ o. unwrap_or o (69 ∷ ((s ++ ds) ++ rest))) (signed-over s ds rest hs hd)

exponent-ends : (e rest : List ℕ) → IsExponent e → after_number_end (after_run is_digit (e ++ rest)) ≡ after_run is_digit rest
exponent-ends _ rest (small s ds hs hd) = ap (λ o. unwrap_or o (101 ∷ ((s ++ ds) ++ rest))) (signed-over s ds rest hs hd)
exponent-ends _ rest (capital s ds hs hd) = ap (λ o. unwrap_or o (69 ∷ ((s ++ ds) ++ rest))) (signed-over s ds rest hs hd)

digits-shorter : (bs rest : List ℕ) → after_digits bs ≡ Some rest → length rest ≤ length bs
digits-shorter [] rest h = absurd (none_some h)
digits-shorter (b ∷ bs) rest h = by (is_digit b) h (run-shorter is_digit bs)
  where
    by : (t : Bool) → (if t then Some (after_run is_digit bs) else None) ≡ Some rest → length (after_run is_digit bs) ≤ length bs → length rest ≤ length (b ∷ bs)
    by true h n = omega (arith, ap length (some-is h))
    by false h n = absurd (none_some h)

digits-or-shorter : (bs other : List ℕ) → length bs ≤ length other → length (unwrap_or (after_digits bs) other) ≤ length other
digits-or-shorter bs other n = by (after_digits bs) refl
  where
    by : (o : Option (List ℕ)) → after_digits bs ≡ o → length (unwrap_or o other) ≤ length other
    by None e = omega arith
    by (Some rest) e = omega (arith, digits-shorter bs rest e)

part-shorter : (c : ℕ) (bs : List ℕ) → length (after_part c bs) ≤ length bs
part-shorter c [] = omega arith
part-shorter c (b ∷ bs) = by (b == c) (digits-or-shorter bs (b ∷ bs) (omega arith))
  where
    by : (t : Bool) → length (unwrap_or (after_digits bs) (b ∷ bs)) ≤ length (b ∷ bs) → length (if t then unwrap_or (after_digits bs) (b ∷ bs) else b ∷ bs) ≤ length (b ∷ bs)
    by true n = n
    by false n = omega arith

sign-shorter : (bs : List ℕ) → length (after_number_sign bs) ≤ length bs
sign-shorter [] = omega arith
sign-shorter (b ∷ bs) = by (is_number_sign b)
  where
    by : (t : Bool) → length (if t then bs else b ∷ bs) ≤ length (b ∷ bs)
    by true = omega arith
    by false = omega arith

exponent-shorter : (bs : List ℕ) → length (after_exponent bs) ≤ length bs
exponent-shorter [] = omega arith
exponent-shorter (b ∷ bs) = by (b == 101 || b == 69) (digits-or-shorter (after_number_sign bs) (b ∷ bs) (omega (arith, sign-shorter bs)))
  where
    by : (t : Bool) → length (unwrap_or (after_digits (after_number_sign bs)) (b ∷ bs)) ≤ length (b ∷ bs) → length (if t then unwrap_or (after_digits (after_number_sign bs)) (b ∷ bs) else b ∷ bs) ≤ length (b ∷ bs)
    by true n = n
    by false n = omega arith

end-shorter : (bs : List ℕ) → length (after_number_end bs) ≤ length bs
end-shorter bs = by (begins_with 47 bs) (part-shorter 47 bs) (part-shorter 46 bs) (exponent-shorter (after_part 46 bs))
  where
    by : (t : Bool) → length (after_part 47 bs) ≤ length bs → length (after_part 46 bs) ≤ length bs → length (after_exponent (after_part 46 bs)) ≤ length (after_part 46 bs) → length (if t then after_part 47 bs else after_exponent (after_part 46 bs)) ≤ length bs
    by true a b c = a
    by false a b c = omega arith

end-over : (e rest : List ℕ) → IsNumberEnd e → length (after_number_end (after_run is_digit (e ++ rest))) ≤ length rest
end-over _ rest whole = omega (arith, end-shorter (after_run is_digit rest), run-shorter is_digit rest)
end-over _ rest (rational ds h) = rw (digits-over ds rest h) (run-shorter is_digit rest)
end-over _ rest (decimal ds h) =
    rw (digits-over ds rest h) (let a = exponent-shorter (after_run is_digit rest) in let b = run-shorter is_digit rest in omega arith)
end-over _ rest (whole_exponent e h) = rw (exponent-ends e rest h) (run-shorter is_digit rest)
end-over _ rest (decimal_exponent ds e hd he) =
    rw (append_assoc ds e rest, digits-over ds (e ++ rest) hd, exponent-over e rest he) (run-shorter is_digit rest)

pub record NumberTaken (bytes rest : List ℕ) : Type 0 where
  pub after : List ℕ
  pub taken : after_number bytes ≡ Some after
  pub not_longer : length after ≤ length rest

pub number-over : (ds e rest : List ℕ) → IsTrue (is_digits ds) → IsNumberEnd e → NumberTaken ((ds ++ e) ++ rest) rest
number-over ds e rest hd he = record {
  after = after_number_end (after_run is_digit (e ++ rest));
  taken = ap (λ x. option_map after_number_end (after_digits x)) (append_assoc ds e rest) ∙ ap (option_map after_number_end) (digits-over ds (e ++ rest) hd);
  not_longer = end-over e rest he;
}

-- ---- what is taken is a number

record PartSplit (c : ℕ) (bytes rest : List ℕ) : Type 0 where
  digits : List ℕ
  split : bytes ≡ c ∷ (digits ++ rest)
  passes : IsTrue (is_digits digits)

part-split : (c : ℕ) (bs : List ℕ) → (after_part c bs ≡ bs) ⊎ PartSplit c bs (after_part c bs)
part-split c [] = inl refl
part-split c (b ∷ bs) = by (b == c) refl (after_digits bs) refl
  where
    by : (t : Bool) → (b == c) ≡ t → (o : Option (List ℕ)) → after_digits bs ≡ o → ((if t then unwrap_or o (b ∷ bs) else b ∷ bs) ≡ b ∷ bs) ⊎ PartSplit c (b ∷ bs) (if t then unwrap_or o (b ∷ bs) else b ∷ bs)
    by false e o f = inl refl
    by true e None f = inl refl
    by true e (Some r) f = let s = digits-split bs r f in inr (record { digits = s.front; split = both-cons (eqb-true b c e) s.whole; passes = s.passes })

record SignSplit (bytes rest : List ℕ) : Type 0 where
  front : List ℕ
  split : bytes ≡ front ++ rest
  is_sign : IsNumberSign front

sign-split : (bs : List ℕ) → SignSplit bs (after_number_sign bs)
sign-split [] = record { front = []; split = refl; is_sign = no_sign }
sign-split (b ∷ bs) = by (b == 43) (b == 45) refl refl
  where
    by : (p m : Bool) → (b == 43) ≡ p → (b == 45) ≡ m → SignSplit (b ∷ bs) (if p || m then bs else b ∷ bs)
    by true m e f = record { front = 43 ∷ []; split = both-cons (eqb-true b 43 e) refl; is_sign = plus }
    by false true e f = record { front = 45 ∷ []; split = both-cons (eqb-true b 45 f) refl; is_sign = minus }
    by false false e f = record { front = []; split = refl; is_sign = no_sign }

record ExponentSplit (bytes rest : List ℕ) : Type 0 where
  front : List ℕ
  split : bytes ≡ front ++ rest
  is_exponent : IsExponent front

exponent-split : (bs : List ℕ) → (after_exponent bs ≡ bs) ⊎ ExponentSplit bs (after_exponent bs)
exponent-split [] = inl refl
exponent-split (b ∷ bs) = by (b == 101) (b == 69) refl refl (after_digits (after_number_sign bs)) refl
  where
    s : SignSplit bs (after_number_sign bs)
    s = sign-split bs

    joined : (ds r : List ℕ) → after_number_sign bs ≡ ds ++ r → bs ≡ (s.front ++ ds) ++ r
    joined ds r e = s.split ∙ ap (λ x. s.front ++ x) e ∙ sym (append_assoc s.front ds r)

    by : (p m : Bool) → (b == 101) ≡ p → (b == 69) ≡ m → (o : Option (List ℕ)) → after_digits (after_number_sign bs) ≡ o → ((if p || m then unwrap_or o (b ∷ bs) else b ∷ bs) ≡ b ∷ bs) ⊎ ExponentSplit (b ∷ bs) (if p || m then unwrap_or o (b ∷ bs) else b ∷ bs)
    by false false e f o g = inl refl
    by true m e f None g = inl refl
    by false true e f None g = inl refl
    by true m e f (Some r) g =
        let d = digits-split (after_number_sign bs) r g in
        inr (record { front = 101 ∷ (s.front ++ d.front); split = both-cons (eqb-true b 101 e) (joined d.front r d.whole); is_exponent = small s.front d.front s.is_sign d.passes })
    by false true e f (Some r) g =
        let d = digits-split (after_number_sign bs) r g in
        inr (record { front = 69 ∷ (s.front ++ d.front); split = both-cons (eqb-true b 69 f) (joined d.front r d.whole); is_exponent = capital s.front d.front s.is_sign d.passes })

record EndSplit (bytes rest : List ℕ) : Type 0 where
  front : List ℕ
  split : bytes ≡ front ++ rest
  is_end : IsNumberEnd front

no-end : (bs rest : List ℕ) → rest ≡ bs → EndSplit bs rest
no-end bs rest e = record { front = []; split = sym e; is_end = whole }

exponent-end : (bs rest : List ℕ) → (rest ≡ bs) ⊎ ExponentSplit bs rest → EndSplit bs rest
exponent-end bs rest (inl e) = no-end bs rest e
exponent-end bs rest (inr s) = record { front = s.front; split = s.split; is_end = whole_exponent s.front s.is_exponent }

rational-end : (bs rest : List ℕ) → (rest ≡ bs) ⊎ PartSplit 47 bs rest → EndSplit bs rest
rational-end bs rest (inl e) = no-end bs rest e
rational-end bs rest (inr s) = record { front = 47 ∷ s.digits; split = s.split; is_end = rational s.digits s.passes }

decimal-end : (bs between rest : List ℕ) → (between ≡ bs) ⊎ PartSplit 46 bs between → (rest ≡ between) ⊎ ExponentSplit between rest → EndSplit bs rest
decimal-end bs between rest (inl e) x = subst (λ y. EndSplit y rest) e (exponent-end between rest x)
decimal-end bs between rest (inr s) (inl e) = record { front = 46 ∷ s.digits; split = s.split ∙ ap (λ y. 46 ∷ (s.digits ++ y)) (sym e); is_end = decimal s.digits s.passes }
decimal-end bs between rest (inr s) (inr x) = record {
  front = 46 ∷ (s.digits ++ x.front);
  split = s.split ∙ ap (λ y. 46 ∷ (s.digits ++ y)) x.split ∙ ap (λ y. 46 ∷ y) (sym (append_assoc s.digits x.front rest));
  is_end = decimal_exponent s.digits x.front s.passes x.is_exponent;
}

end-split : (bs : List ℕ) → EndSplit bs (after_number_end bs)
end-split bs = by (begins_with 47 bs)
  where
    by : (t : Bool) → EndSplit bs (if t then after_part 47 bs else after_exponent (after_part 46 bs))
    by true = rational-end bs (after_part 47 bs) (part-split 47 bs)
    by false = decimal-end bs (after_part 46 bs) (after_exponent (after_part 46 bs)) (part-split 46 bs) (exponent-split (after_part 46 bs))

pub record NumberSplit (bytes rest : List ℕ) : Type 0 where
  pub digits : List ℕ
  pub end : List ℕ
  pub split : bytes ≡ (digits ++ end) ++ rest
  pub are_digits : IsTrue (is_digits digits)
  pub is_end : IsNumberEnd end

pub number-split : (bs rest : List ℕ) → after_number bs ≡ Some rest → NumberSplit bs rest
number-split bs rest h = by (after_digits bs) refl h
  where
    by : (o : Option (List ℕ)) → after_digits bs ≡ o → option_map after_number_end o ≡ Some rest → NumberSplit bs rest
    by None e h = absurd (none_some h)
    by (Some r) e h =
        let d = digits-split bs r e in
        let n = end-split r in
        record {
          digits = d.front;
          end = n.front;
          split = d.whole ∙ ap (λ y. d.front ++ y) (n.split ∙ ap (λ y. n.front ++ y) (some-is h)) ∙ sym (append_assoc d.front n.front rest);
          are_digits = d.passes;
          is_end = n.is_end;
        }
