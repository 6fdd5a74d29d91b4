-- The homes of the definitions that those of the program stand for.
use Rattle.term_store.specs.Homes as tree
use Rattle.term_store.specs.declared.home.Home.{Home}

abbrev pub the_home : Home → tree.Home
the_home h = record { home = h.home; label = h.label; is_whole = h.is_whole }
