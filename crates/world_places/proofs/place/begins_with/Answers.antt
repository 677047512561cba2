use Rattle.std.proofs.Common.{◌≡◌, ◌≤◌, Bool, List, [], ◌∷◌, length, get_or, map, Decides, sym, ap, ◌∙◌, arith}
use Rattle.of10_codec.specs.declared.message.Message.{Message}
use Rattle.world_places.specs.declared.said.Sent.{Sent}
use Rattle.world_places.specs.Places.{BeginsWith}
use Rattle.world_places.specs.Said.{message_sent}
use Rattle.world_places.proofs.place.begins_with.Goals as goal

is_first_by : (sent : List Sent) (s : Sent) (m : Message) (b : Bool) → 1 ≤ length sent → s ≡ get_or sent 0 s → Decides b (m ≡ message_sent s) → Decides b (BeginsWith m (map message_sent sent))
is_first_by [] s m b some is told = absurd (omega arith)
is_first_by (t ∷ rest) s m b some is told = (
  λ yes. (map message_sent rest, ap (λ (x : Message). x ∷ map message_sent rest) (ap message_sent (sym is) ∙ sym (told.0 yes))),
  λ h. let first : message_sent t ≡ m = let e = h.1 in cc in told.1 (sym first ∙ ap message_sent (sym is)),
)

pub returns-in-len1-up : goal.returns-in-len1-up
returns-in-len1-up c = is_first_by c.args.sent.now c.first-item.result c.args.message.now c.is_sent.result c.in-len1-up.len_at_least c.first-item.is c.is_sent.ensures
