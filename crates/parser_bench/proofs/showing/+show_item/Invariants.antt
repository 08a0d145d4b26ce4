use Rattle.parser_bench.proofs.showing.+show_item.Given as goal

abbrev pub decreases-show_item : goal.decreases-show_item
decreases-show_item l = l.levels
