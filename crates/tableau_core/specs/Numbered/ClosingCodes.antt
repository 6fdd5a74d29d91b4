-- The codes by which a check tells closings apart: different closings have different codes.
use Rattle.std.specs.Prelude.{◌≡◌, List, refl}
use Rattle.std.specs.Coded.{Coded, coded_list}
use base.Stored.{Gv, gnil, gnum, gcons}
use Rattle.tableau_core.specs.LiteralCodes.{sign_gv, sign_gv-inj, side_list_code}
use Rattle.tableau_core.specs.Numbered.Closings.{Closing, Closings, reduce, extend, no_closings, more_closings}
use Rattle.tableau_core.specs.declared.literal.GroundLiteral.{GroundLiteral}
use Rattle.tableau_core.specs.declared.instance.ClauseInstance.{ClauseInstance}

abbrev pub literal_gv : GroundLiteral → Gv
literal_gv x = gcons (sign_gv x.sign) (gcons (gnum x.symbol.0) (gcons (gnum x.args.0) (gnum x.label.0)))

pub literal_gv-inj : (x y : GroundLiteral) → literal_gv x ≡ literal_gv y → x ≡ y
literal_gv-inj x y q =
    let e : sign_gv x.sign ≡ sign_gv y.sign = cc in
    let n : x.symbol.0 ≡ y.symbol.0 = cc in
    let d : x.args.0 ≡ y.args.0 = cc in
    let w : x.label.0 ≡ y.label.0 = cc in
    let a = sign_gv-inj x.sign y.sign e in
    λ i. record { sign = a i; symbol = record { 0 = n i }; args = record { 0 = d i }; label = record { 0 = w i } }

abbrev pub literal_list_code : Coded (List GroundLiteral)
literal_list_code = coded_list (record { code = literal_gv; inj = literal_gv-inj })

abbrev pub instance_gv : ClauseInstance → Gv
instance_gv x = gcons (side_list_code.code x.selection) (gcons (gnum x.values.0) (literal_list_code.code x.literals))

pub instance_gv-inj : (x y : ClauseInstance) → instance_gv x ≡ instance_gv y → x ≡ y
instance_gv-inj x y q =
    let e : side_list_code.code x.selection ≡ side_list_code.code y.selection = cc in
    let d : x.values.0 ≡ y.values.0 = cc in
    let w : literal_list_code.code x.literals ≡ literal_list_code.code y.literals = cc in
    let a = side_list_code.inj x.selection y.selection e in
    let c = literal_list_code.inj x.literals y.literals w in
    λ i. record { selection = a i; values = record { 0 = d i }; literals = c i }

abbrev mutual
  pub closing_gv : Closing → Gv
  closing_gv (reduce up) = gcons (gnum 0) (gnum up)
  closing_gv (extend i place below) = gcons (gnum 1) (gcons (instance_gv i) (gcons (gnum place) (closings_gv below)))

  pub closings_gv : Closings → Gv
  closings_gv no_closings = gnil
  closings_gv (more_closings c cs) = gcons (closing_gv c) (closings_gv cs)

mutual
  pub closing_gv-inj : (x y : Closing) → closing_gv x ≡ closing_gv y → x ≡ y
  closing_gv-inj (reduce n) (reduce m) q = cc
  closing_gv-inj (reduce n) _ q = cc
  closing_gv-inj (extend i n cs) (extend j m ds) q = let e : instance_gv i ≡ instance_gv j = cc in let d : closings_gv cs ≡ closings_gv ds = cc in let h = instance_gv-inj i j e in let k = closings_gv-inj cs ds d in cc
  closing_gv-inj (extend i n cs) _ q = cc

  pub closings_gv-inj : (x y : Closings) → closings_gv x ≡ closings_gv y → x ≡ y
  closings_gv-inj no_closings no_closings q = refl
  closings_gv-inj no_closings (more_closings y ys) q = cc
  closings_gv-inj (more_closings x xs) no_closings q = cc
  closings_gv-inj (more_closings x xs) (more_closings y ys) q = let e : closing_gv x ≡ closing_gv y = cc in let d : closings_gv xs ≡ closings_gv ys = cc in let h = closing_gv-inj x y e in let k = closings_gv-inj xs ys d in cc

abbrev pub closing_code : Coded Closing
closing_code = record { code = closing_gv; inj = closing_gv-inj }

abbrev pub closing_list_code : Coded (List Closing)
closing_list_code = coded_list closing_code
