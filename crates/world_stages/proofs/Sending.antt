-- What a session's sending does to what is under way.
use Rattle.std.proofs.Common.{◌≡◌, ℕ, ◌+◌, ◌≤◌, Bool, true, List, [], ◌∷◌, ◌++◌, length, append_assoc, refl, sym, ap, ap₂, ◌∙◌, subst, inl, arith}
use Rattle.std.specs.List.{AllByRecursion}
use Rattle.std.proofs.lemmas.List.{append-nil}
use Rattle.std.proofs.lemmas.List.Elements.{filter-append}
use Rattle.std.proofs.lemmas.List.Sorted.{IsPermutation-refl}
use Rattle.maple_base.specs.declared.decision.TableMod.{TableMod}
use Rattle.of10_codec.specs.declared.message.Message.{Message}
use Rattle.switch_session.specs.declared.part.Part.{Part}
use Rattle.switch_session.specs.Lists.{Lists}
use Rattle.switch_session.specs.Parts.{change_message, changes_from, changes_of, barrier_of, barrier_request, part_messages}
use Rattle.switch_session.specs.Sessions.{leaves}
use Rattle.machine_steps.specs.Machine.{Session}
use Rattle.world_steps.specs.Worlds.{Link}
use Rattle.world_stages.specs.Flights.{line_of, back_of, is_control, controls, signals, IsUpTo, IsClear}
use Rattle.world_stages.specs.FlightLaws.{OthersAreSent, AllAreTakenOut, Departs, PartsDepart}
use Rattle.world_stages.proofs.Lists.{filter_none, filter_all, filter_end, all_append, all_weaker, passing_append}
use Rattle.world_stages.proofs.Bodies.{change_is_flow_mod, flow_mod_control}
use Rattle.world_stages.proofs.Once.{IsChangeOf, changes_number}

-- ---- messages behind the others of the outbox

line_longer : (pending to outbox ms : List Message) → pending ++ (to ++ (outbox ++ ms)) ≡ (pending ++ (to ++ outbox)) ++ ms
line_longer pending to outbox ms = ap (λ (xs : List Message). pending ++ xs) (sym (append_assoc to outbox ms)) ∙ sym (append_assoc pending (to ++ outbox) ms)

-- that are no controls
pub others_are_sent : OthersAreSent
others_are_sent s l ms others = record {
  line = ap controls (line_longer l.switch.pending l.to s.outbox ms) ∙ filter_end is_control (line_of s l) ms (filter_none is_control ms others);
  numbered = λ n. record {
    taken = n.taken;
    pending = n.pending;
    to = n.to;
    outbox = subst (AllByRecursion (IsUpTo s.used)) (sym (filter_end is_control s.outbox ms (filter_none is_control ms others))) n.outbox;
    back = n.back;
  };
}

-- ---- all are taken out

up_to_more : (n k : ℕ) → n ≤ k → (ms : List Message) → AllByRecursion (IsUpTo n) ms → AllByRecursion (IsUpTo k) ms
up_to_more n k le ms h = all_weaker (IsUpTo n) (IsUpTo k) (λ m up. omega arith) ms h

pub all_are_taken_out : AllAreTakenOut
all_are_taken_out s l = record {
  line = ap (λ (xs : List Message). l.switch.pending ++ xs) (append-nil (l.to ++ s.outbox));
  numbered = λ n. record {
    taken = omega arith;
    pending = up_to_more s.taken s.used n.taken (controls l.switch.pending) n.pending;
    to = passing_append is_control (IsUpTo s.used) l.to s.outbox (up_to_more s.taken s.used n.taken (controls l.to) n.to) n.outbox;
    outbox = tt;
    back = up_to_more s.taken s.used n.taken (signals (back_of l)) n.back;
  };
}

-- ---- a part leaves

-- its changes are controls
changes_control : (xid : ℕ) (changes : List TableMod) → AllByRecursion (λ (m : Message). is_control m ≡ true) (changes_from xid changes)
changes_control xid [] = tt
changes_control xid (c ∷ changes) = (flow_mod_control (change_message xid c) (change_is_flow_mod c), changes_control (xid + 1) changes)

part_controls : (xid barrier : ℕ) (changes : List TableMod) → controls (changes_from xid changes ++ barrier_request barrier ∷ []) ≡ changes_from xid changes ++ barrier_request barrier ∷ []
part_controls xid barrier changes =
    filter_all is_control (changes_from xid changes ++ barrier_request barrier ∷ [])
    (all_append (λ (m : Message). is_control m ≡ true) (changes_from xid changes) (barrier_request barrier ∷ []) (changes_control xid changes) (refl, tt))

-- with numbers ahead of its barrier's
part_numbers : (xid barrier : ℕ) (changes : List TableMod) → xid + length changes ≤ barrier → AllByRecursion (IsUpTo barrier) (changes_from xid changes ++ barrier_request barrier ∷ [])
part_numbers xid barrier changes below =
    all_append (IsUpTo barrier) (changes_from xid changes) (barrier_request barrier ∷ [])
    (all_weaker (IsChangeOf xid barrier changes) (IsUpTo barrier) (λ m h. let b = h.below in omega arith) (changes_from xid changes)
    (changes_number xid barrier xid changes changes (omega arith) below (λ c d. d)))
    (omega arith, tt)

module _ (lists : Lists) (part : Part) (parts : List Part) (quiet : Bool) (s : Session) (l : Link) (clear : IsClear s l) where
  part_line : controls (line_of (leaves lists (part ∷ parts) s) l) ≡ part_messages s.used part
  part_line =
      ap controls (line_longer l.switch.pending l.to s.outbox (part_messages s.used part))
      ∙ filter-append is_control (line_of s l) (part_messages s.used part)
      ∙ ap₂ (λ (xs ys : List Message). xs ++ ys) clear.line (part_controls (s.used + 1) (barrier_of s.used part) (changes_of part))

  departs : Departs lists part parts quiet s l
  departs = record {
    flight = record {
      due = changes_from (s.used + 1) (changes_of part);
      errors = [];
      each = record {
        carried = [];
        heard = [];
        unheard = [];
        above = omega arith;
        numbers = omega arith;
        once = IsPermutation-refl (changes_from (s.used + 1) (changes_of part));
        asked = tt;
        noisy = λ loud. refl;
        told = tt;
      };
      way = inl (part_line, clear.back);
    };
    numbered = λ n. record {
      taken = let le = n.taken in omega arith;
      pending = n.pending;
      to = n.to;
      outbox = passing_append is_control (IsUpTo (barrier_of s.used part)) s.outbox (part_messages s.used part)
          (up_to_more s.used (barrier_of s.used part) (omega arith) (controls s.outbox) n.outbox)
          (subst (AllByRecursion (IsUpTo (barrier_of s.used part))) (sym (part_controls (s.used + 1) (barrier_of s.used part) (changes_of part)))
          (part_numbers (s.used + 1) (barrier_of s.used part) (changes_of part) (omega arith)));
      back = n.back;
    };
  }

pub parts_depart : PartsDepart
parts_depart = departs
