use Rattle.std.proofs.Common.{◌||◌, ap, sym, ◌∙◌}
use Rattle.std.specs.Option.{option_copied}
use Rattle.expr_lowering.specs.HostNeeds.{name_if_any}
use Rattle.expr_lowering.proofs.Sets.{on_ok, one_more}
use Rattle.expr_tree.proofs.Rising.{has}
use Rattle.expr_lowering.proofs.needs.add_of_instruction.Goals as goal

pub returns-in-Some : goal.returns-in-Some
returns-in-Some c =
    on_ok c.add.result (λ put q. one_more c.in-Some.name.now c.args.names.now c.add.new.self put q
    ∙ ap (λ l. has q c.args.names.now || has q l) (sym (ap (λ o. name_if_any (option_copied o)) c.in-Some.is) ∙ c.sought_in.ensures)) c.add.ensures
