use Rattle.std.proofs.Common.{◌≡◌, suc, length, ap, sym, ◌∙◌, arith}
use Rattle.std.proofs.lemmas.List.{length-map, length_push}
use Rattle.model_switch.specs.Kept.{waiting}
use Rattle.model_switch.proofs.Lists.{all_push, free_push_free, free_push_other}
use Rattle.model_switch.proofs.waiting.Waiting.push.Goals as goal

pub invariant_of-self-then-alone : goal.invariant_of-self-then-alone
invariant_of-self-then-alone c =
    let ms = waiting c.self.inside in
    let pushed = c.in_ok-push_boxed.ensures.ok in
    let len : c.len.result ≡ length ms = rw length-map (omega arith) in
    let count = free_push_free ms c.args.message _ _ c.self.invariant.free len (sym c.stands_free-alone.ensures ∙ c.if-alone.true) in
    let size : c.len-self-inside.result ≡ suc (length ms) = omega (arith, ap length pushed, length-map c.push_boxed.new.list.items (λ b. b.value), length_push ms c.args.message) in
    record { free = rw pushed (size ∙ sym count); sent = rw pushed (all_push ms c.args.message c.self.invariant.sent c.requires) }

pub invariant_of-self-else-alone : goal.invariant_of-self-else-alone
invariant_of-self-else-alone c =
    let ms = waiting c.self.inside in
    let pushed = c.in_ok-push_boxed.ensures.ok in
    let len : c.len.result ≡ length ms = rw length-map (omega arith) in
    let count = free_push_other ms c.args.message _ _ c.self.invariant.free len (sym c.stands_free-alone.ensures ∙ c.if-alone.false) in
    record { free = rw pushed (c.self.invariant.free ∙ sym count); sent = rw pushed (all_push ms c.args.message c.self.invariant.sent c.requires) }
