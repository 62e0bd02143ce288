use Rattle.lp_fractions.proofs.floor.+divided_product.Given as goal

abbrev pub decreases-divided_product : goal.decreases-divided_product
decreases-divided_product l = l.d
