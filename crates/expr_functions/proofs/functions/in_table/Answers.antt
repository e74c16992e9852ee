use Rattle.std.proofs.Common.{rules, ◌≡◌, ℕ, Bool, true, ◌||◌, not, nat_eq, List, length, sym, ap, ◌∙◌}
use Rattle.expr_functions.specs.Functions.{found_in}
use Rattle.expr_functions.specs.declared.functions.TheConstants.{OF_THREE, OF_FOUR, OF_FIVE, OF_SIX, OF_SEVEN}
use Rattle.expr_functions.proofs.Among.{alone, named_so}
use Rattle.expr_functions.proofs.functions.in_table.Goals as goal

-- the name is as long, or as long as none of these
abbrev of_length : ℕ → List ℕ → Bool
of_length n name = nat_eq (length name) n

abbrev of_other_length : List ℕ → Bool
of_other_length name = not (of_length 3 name || (of_length 4 name || (of_length 5 name || (of_length 6 name || of_length 7 name))))

pub returns-in-3 : goal.returns-in-3
returns-in-3 c =
    c.of_three.ensures ∙ sym (named_so (of_length 3) c.args.name.now (ap (λ k. nat_eq k 3) c.in-3.is) ∙ alone (found_in (λ word. word.now) OF_THREE c.args.name.now))

pub returns-in-4 : goal.returns-in-4
returns-in-4 c =
    c.of_four.ensures ∙ sym (named_so (of_length 4) c.args.name.now (ap (λ k. nat_eq k 4) c.in-4.is) ∙ alone (found_in (λ word. word.now) OF_FOUR c.args.name.now))

pub returns-in-5 : goal.returns-in-5
returns-in-5 c =
    c.of_five.ensures ∙ sym (named_so (of_length 5) c.args.name.now (ap (λ k. nat_eq k 5) c.in-5.is) ∙ alone (found_in (λ word. word.now) OF_FIVE c.args.name.now))

pub returns-in-6 : goal.returns-in-6
returns-in-6 c =
    c.of_six.ensures ∙ sym (named_so (of_length 6) c.args.name.now (ap (λ k. nat_eq k 6) c.in-6.is) ∙ alone (found_in (λ word. word.now) OF_SIX c.args.name.now))

pub returns-in-7 : goal.returns-in-7
returns-in-7 c =
    c.of_seven.ensures ∙ sym (named_so (of_length 7) c.args.name.now (ap (λ k. nat_eq k 7) c.in-7.is) ∙ alone (found_in (λ word. word.now) OF_SEVEN c.args.name.now))

pub returns-in_default : goal.returns-in_default
returns-in_default c =
    let other : of_other_length c.args.name.now ≡ true = search rules in
    c.of_more.ensures ∙ sym (named_so of_other_length c.args.name.now other)
