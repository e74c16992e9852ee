use Rattle.std.proofs.Common.{map, string_bytes, if◌then◌else◌, sym, ap, ◌∙◌}
use Rattle.std.specs.BTreeSet.{insert_key}
use Rattle.std.specs.Cmp.Lexicographic.{slice_cmp}
use Rattle.std.specs.Ordering.{nat_cmp}
use Rattle.expr_tree.proofs.Rising.{insert_there, insert_bytes, found_bytes, sorted_bytes}
use Rattle.expr_tree.proofs.names.Names.add.Goals as goal
use Rattle.expr_tree.proofs.names.Names.add.Goals.{then-eq-via-then-eq, then-eq-via-else-eq+then-contains}

pub returns-then-eq : goal.returns-then-eq
returns-then-eq c =
    let names = c.args.self.now in
    let n = c.args.name.now in
    elim c.then-eq.branch [
      | then-eq-via-then-eq w ↦ sym (ap (λ b. if b then names else insert_key (slice_cmp nat_cmp) names n) (sym c.eq.ensures ∙ w.if-eq.true))
      | then-eq-via-else-eq+then-contains w ↦
          let keys = c.self.inside.set.keys in
          sym (ap (λ b. if b then names else insert_key (slice_cmp nat_cmp) names n) (sym c.eq.ensures ∙ w.if-eq.false)
          ∙ ap (λ l. insert_key (slice_cmp nat_cmp) l n) (sym c.self.view_is)
          ∙ insert_there n (map string_bytes keys) (sorted_bytes keys c.self.invariant) (sym (found_bytes n keys) ∙ sym w.contains.ensures ∙ w.if-contains.true)
          ∙ c.self.view_is)
    ]

pub returns : goal.returns
returns c =
    let names = c.args.self.now in
    let n = c.args.name.now in
    ap (map string_bytes) c.in_ok-insert.ensures.keys ∙ insert_bytes c.self.inside.set.keys c.in_ok-name.name
    ∙ (λ i. insert_key (slice_cmp nat_cmp) (c.self.view_is i) (c.in_ok-name.ensures.ok i))
    ∙ ap (λ b. if b then names else insert_key (slice_cmp nat_cmp) names n) (sym (sym c.eq.ensures ∙ c.if-eq.false))
