use Rattle.std.proofs.Common.{◌≡◌, option_copied}
use Rattle.std.specs.List.{list_all}
use Rattle.irl_pld.specs.Cut.{split, parts_left}
use Rattle.irl_pld.specs.Names.{is_label}
use Rattle.irl_pld.proofs.names.has_labels.Given as goal

-- the labels that are left decide
abbrev pub invariant-loop-label : goal.invariant-loop-label
invariant-loop-label l =
    list_all is_label (parts_left l.label-iterator.separator (option_copied l.label-iterator.left)) ≡ list_all is_label (split 46 l.name)
