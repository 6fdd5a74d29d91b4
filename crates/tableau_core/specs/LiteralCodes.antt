-- The codes by which a check tells ground literals and clause instances apart.
use Rattle.std.specs.Prelude.{◌≡◌, List, refl}
use Rattle.std.specs.Coded.{Coded, coded_list}
use base.Stored.{Gv, gnil, gnum, gcons}
use Rattle.calculus.specs.declared.sign.Sign.{Sign}
use Rattle.calculus.specs.declared.sign.Sign.TheVariants.{T, F}
use Rattle.calculus.specs.declared.sign.Side.{Side}
use Rattle.calculus.specs.declared.sign.Side.TheVariants.{Left, Right}

abbrev pub sign_gv : Sign → Gv
sign_gv T = gnil
sign_gv F = gnum 0

pub sign_gv-inj : (x y : Sign) → sign_gv x ≡ sign_gv y → x ≡ y
sign_gv-inj T T q = refl
sign_gv-inj T F q = cc
sign_gv-inj F T q = cc
sign_gv-inj F F q = refl

abbrev pub side_gv : Side → Gv
side_gv Left = gnil
side_gv Right = gnum 0

pub side_gv-inj : (x y : Side) → side_gv x ≡ side_gv y → x ≡ y
side_gv-inj Left Left q = refl
side_gv-inj Left Right q = cc
side_gv-inj Right Left q = cc
side_gv-inj Right Right q = refl

abbrev pub side_list_code : Coded (List Side)
side_list_code = coded_list (record { code = side_gv; inj = side_gv-inj })
