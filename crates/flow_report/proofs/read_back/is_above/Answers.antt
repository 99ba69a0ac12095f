use Rattle.std.specs.Ordering.{is_lt, nat_cmp}
use Rattle.std.proofs.Common.{◌≡◌, rules, sym, ap, ◌∙◌}
use Rattle.flow_fold.specs.Key.{key_cmp}
use Rattle.flow_report.proofs.Rising.{flow_key, key_cmp_total, rising_push, rising_first, above_last, less_from_is_lt, partial_lt_both}
use Rattle.flow_report.proofs.read_back.is_above.Goals as goal

pub returns-in-Some : goal.returns-in-Some
returns-in-Some c =
    let last = c.in-Some.last.now in
    let flow = c.args.flow.now in
    let below : c.lt.result ≡ is_lt (key_cmp last.0 flow.0) = c.lt.ensures ∙ partial_lt_both (nat_cmp last.0.k0 flow.0.k0) (nat_cmp last.0.k1 flow.0.k1) in
    let is_last = sym c.in-Some.ensures.value in (
      λ yes. rising_push flow_key key_cmp key_cmp_total c.args.before.now last flow c.requires is_last (less_from_is_lt _ (sym below ∙ yes)),
      λ rising. below ∙ ap is_lt (above_last flow_key key_cmp key_cmp_total c.args.before.now last flow rising is_last),
    )

pub returns-in-None : goal.returns-in-None
returns-in-None c = (λ yes. rising_first flow_key key_cmp key_cmp_total c.args.before.now c.args.flow.now c.in-None.ensures.value, λ rising. search rules)
