use Rattle.std.proofs.Common.{◌≡◌, ◌<◌, Option, Some, None, suc, ◌++◌, map, take, drop, ap, sym, ◌∙◌, arith}
use Rattle.std.specs.Option.{IsSome, OnSome}
use Rattle.std.specs.List.{remove}
use Rattle.std.specs.VecDeque.{deque_len}
use Rattle.std.proofs.lemmas.List.{take-map, drop-map, map-append}
use Rattle.std.proofs.lemmas.Bool.{false≢true}
use Rattle.model_switch.proofs.waiting.remove_boxed.Goals as goal

on_some : {A : Type 0} (P : Type 0) (r : Option A) → IsSome r → OnSome r P → P
on_some P None some on = absurd (false≢true some)
on_some P (Some x) some on = on

pub returns : goal.returns
returns c =
    let items = c.args.list.now.items in
    let within : c.args.place < deque_len c.args.list.now = omega arith in
    let rest = on_some (c.remove.new.self.items ≡ remove items c.args.place) c.remove.result (c.remove.ensures.variant.1 within) c.remove.ensures.items in
    ap (map (λ b. b.value)) rest ∙ map-append (λ b. b.value) (take c.args.place items) (drop (suc c.args.place) items)
    ∙ ap (λ front. front ++ map (λ b. b.value) (drop (suc c.args.place) items)) (sym (take-map (λ b. b.value) c.args.place items))
    ∙ ap (λ back. take c.args.place (map (λ b. b.value) items) ++ back) (sym (drop-map (λ b. b.value) (suc c.args.place) items))
