-- The code by which a check tells ground lists apart.
use Rattle.std.specs.Prelude.{◌≡◌, List}
use Rattle.std.proofs.Common.{ap}
use Rattle.std.specs.Coded.{Coded, coded_list}
use base.Stored.{Gv, gnum, gcons}
use Rattle.calculus.specs.Codes.{g_term_list_code, mark_list_code, value_list_code}
use Rattle.formula_core.specs.GroundLists.{GroundList, of_terms, of_marks, of_values}

abbrev pub ground_list_gv : GroundList → Gv
ground_list_gv (of_terms ts) = gcons (gnum 0) (g_term_list_code.code ts)
ground_list_gv (of_marks ms) = gcons (gnum 1) (mark_list_code.code ms)
ground_list_gv (of_values vs) = gcons (gnum 2) (value_list_code.code vs)

pub ground_list_gv-inj : (x y : GroundList) → ground_list_gv x ≡ ground_list_gv y → x ≡ y
ground_list_gv-inj (of_terms ts) (of_terms us) q = let e : g_term_list_code.code ts ≡ g_term_list_code.code us = cc in ap of_terms (g_term_list_code.inj ts us e)
ground_list_gv-inj (of_terms ts) _ q = cc
ground_list_gv-inj (of_marks ts) (of_marks us) q = let e : mark_list_code.code ts ≡ mark_list_code.code us = cc in ap of_marks (mark_list_code.inj ts us e)
ground_list_gv-inj (of_marks ts) _ q = cc
ground_list_gv-inj (of_values ts) (of_values us) q = let e : value_list_code.code ts ≡ value_list_code.code us = cc in ap of_values (value_list_code.inj ts us e)
ground_list_gv-inj (of_values ts) _ q = cc

abbrev pub ground_lists_code : Coded (List GroundList)
ground_lists_code = coded_list (record { code = ground_list_gv; inj = ground_list_gv-inj })
