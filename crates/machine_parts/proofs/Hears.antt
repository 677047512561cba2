-- A session that hears, in its list.
use Rattle.std.proofs.Common.{◌≡◌, ℕ, ◌<◌, List, length, get_or, set, map, refl, ap, ◌∙◌}
use Rattle.std.specs.Option.{option_map}
use Rattle.std.proofs.lemmas.List.{map-set}
use Rattle.std.proofs.lemmas.Option.{slice_get-map, slice_get_read}
use Rattle.of10_codec.specs.declared.message.Message.{Message}
use Rattle.switch_session.specs.Calls.{Answer, Hears}
use Rattle.machine_parts.specs.declared.connection.Connection.{Connection}
use Rattle.machine_parts.specs.Hearing.{HearsAt}
use Rattle.machine_parts.specs.Sessions.{session_of}
use Rattle.machine_steps.specs.Machine.{Session}

-- the session of an element of the machine's list
pub heard_at : (cs : List Connection) (at : ℕ) (m : Message) (a : Answer) (entry : Connection) (t : Session) → at < length cs → entry ≡ get_or cs at entry
    → Hears m entry.session a t → HearsAt at m (map session_of cs) a (map session_of (set cs at (record entry { session = t })))
heard_at cs at m a entry t l e h = record {
  session = entry.session;
  behind = t;
  there = slice_get-map session_of cs at ∙ ap (option_map session_of) (slice_get_read cs (length cs) at entry refl l e);
  hears = h;
  now_is = map-set session_of cs at (record entry { session = t });
}
