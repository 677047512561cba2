-- What a model switch does is what a device that keeps the specification may do.
use Rattle.std.proofs.Common.{◌≡◌, ◌⊎◌, ℕ, ◌+◌, ◌<◌, ◌≤◌, Bool, true, false, Option, Some, None, List, [], ◌∷◌, ◌++◌, length, refl, sym, ap, ◌∙◌, subst, inl, inr, arith, length-append}
use Rattle.std.specs.Prelude.{if◌then◌else◌}
use Rattle.std.specs.List.{AllByRecursion}
use Rattle.std.specs.List.Sorted.{IsPermutation}
use Rattle.std.specs.Option.{option_map, option_to_list}
use Rattle.std.proofs.lemmas.Bool.{false≢true}
use Rattle.std.proofs.lemmas.List.{append-nil}
use Rattle.std.proofs.lemmas.List.Sorted.{IsPermutation-refl}
use Rattle.std.proofs.lemmas.List.Elements.{Contains-push}
use Rattle.maple_base.specs.declared.decision.Rule.{Rule}
use Rattle.maple_base.specs.declared.decision.TableMod.{TableMod}
use Rattle.maple_base.specs.declared.decision.TableMod.TheVariants.{Add, DeleteStrict, DeleteAll}
use Rattle.maple_base.specs.declared.device.Turned.{Turned}
use Rattle.maple_base.specs.declared.device.Turned.TheVariants.{Nothing, Processed, Refused, Failed as FailedTurn, NoMemory as NoMemoryTurn}
use Rattle.maple_base.specs.declared.device.Seen.{Seen}
use Rattle.maple_base.specs.declared.device.Seen.TheVariants.{Hit, Miss, Failed as FailedLook, NoMemory as NoMemoryLook}
use Rattle.maple_base.specs.Counts.{next_count}
use Rattle.maple_base.specs.NetworkOrder.{number_at}
use Rattle.flow_table.specs.declared.applied.Applied.{Applied}
use Rattle.flow_table.specs.declared.applied.Applied.TheVariants.{Added, Replaced, Deleted, Full, NoMemory as NoMemoryApplied}
use Rattle.flow_table.specs.Effects.{effect, answer_of}
use Rattle.flow_table.specs.Tables.{Entries, Leaves}
use Rattle.of10_codec.specs.declared.message.Message.{Message}
use Rattle.of10_codec.specs.declared.message.Body.{Body}
use Rattle.of10_codec.specs.declared.message.Body.TheVariants.{Hello, FeaturesRequest, FlowMod, BarrierRequest, BarrierReply}
use Rattle.device_port.specs.declared.device.Took.{Took}
use Rattle.device_port.specs.declared.device.Took.TheVariants.{Taken, Failed as FailedOffer, NoMemory as NoMemoryOffer}
use Rattle.device_port.specs.Switches.{is_barrier, is_flow_mod, change_of, message, AnswersBody, LeadsBy}
use Rattle.device_port.specs.Switches.Step.{Process, Refuse, Answer}
use Rattle.device_port.specs.Devices.{Call, with_call, Goes, Fails, SpellAmongFree, Steps, Offers, Turns, Packets}
use Rattle.device_port.specs.Devices.Call.{Offered, Turning, Looking}
use Rattle.model_switch.specs.Answers.{reply_of, refusal, is_full, overfills, overfills_by, answer_to, IsWritten, TableBehind, Sees, packet_in}
use Rattle.model_switch.specs.States.{State, free_count, IsNext, IsOffered, TurnsAt, RefusesMod, meaning_of}
use Rattle.model_switch.specs.Faults.{TurnsUnlessFailed, SeesUnlessFailed}
use Rattle.model_switch.specs.Refusals.{TurnsBy}
use Rattle.model_switch.proofs.Lists.{NoBarrier, free_apart}

-- a call that was answered stands behind the others, and one without memory left nothing
pub record Logs {A : Type 0} (answer none : A) (call : Call) (old new : Option (List Call)) : Type 0 where
  pub lacking : answer ≡ none → new ≡ old
  pub answered : (answer ≡ none → ⊥) → new ≡ with_call call old

goes : (call : Call) (faults : ℕ) (old new : Option (List Call)) (s t : State) → t.dpid ≡ s.dpid → new ≡ with_call call old → Goes call (meaning_of faults old s) (meaning_of faults new t)
goes call faults old new s t same log = record { tells = record { dpid = same; keeps = refl; log = log }; spared = refl }

stays : (faults : ℕ) (old new : Option (List Call)) (s t : State) → t ≡ s → new ≡ old → meaning_of faults new t ≡ meaning_of faults old s
stays faults old new s t same log = ap (λ (x : State). meaning_of faults new x) same ∙ ap (λ (l : Option (List Call)). meaning_of faults l s) log

-- ---- offers

pub offers_meant : (bytes : List ℕ) (took : Took) (s t : State) (faults : ℕ) (old new : Option (List Call)) → IsOffered bytes took s t
    → Logs took NoMemoryOffer (Offered bytes took) old new → Offers bytes took (meaning_of faults old s) (meaning_of faults new t)
offers_meant bytes Taken s t faults old new h logs = (
  goes (Offered bytes Taken) faults old new s t (ap (λ (x : State). x.dpid) h.now_is) (logs.answered (λ e. cc)),
  record {
    offered = h.offered;
    is = h.is;
    last = ap (λ (x : State). x.pending) h.now_is;
    table = λ k. ap (λ (x : State). x.table.rules) h.now_is;
  },
)
offers_meant bytes FailedOffer s t faults old new h logs = absurd h
offers_meant bytes NoMemoryOffer s t faults old new h logs = stays faults old new s t h (logs.lacking refl)

-- ---- turns

-- what is written is spelled
spelled_out : (o : Option Message) (bytes : List ℕ) → IsWritten o bytes → SpellAmongFree (option_to_list o) bytes
spelled_out None bytes h = record { ahead = []; behind = []; free_ahead = tt; free_behind = tt; spell = h }
spelled_out (Some m) bytes h = record { ahead = []; behind = []; free_ahead = tt; free_behind = tt; spell = (bytes, [], sym (append-nil bytes), h.1, refl) }

-- the answers are those of the specification
answers_body : (dpid ports xid : ℕ) (body : Body) → is_barrier body ≡ false → AnswersBody dpid xid body (option_to_list (option_map (message xid) (reply_of dpid ports body)))
answers_body dpid ports xid (Hello version) unlike = inr (xid, 1, refl)
answers_body dpid ports xid FeaturesRequest unlike = (xid, _, refl)
answers_body dpid ports xid BarrierRequest unlike = absurd (false≢true (sym unlike))
answers_body dpid ports xid body unlike = refl

-- the effect is that of the specification
leaves : (a : Applied) (change : TableMod) (old new : Entries) → is_full a ≡ false → (a ≡ NoMemoryApplied → ⊥) → Leaves a change old new → IsPermutation (effect change old.rules) new.rules
leaves Full change old new unlike some h = absurd (false≢true (sym unlike))
leaves NoMemoryApplied change old new unlike some h = absurd (some refl)
leaves Added change old new unlike some h = h
leaves Replaced change old new unlike some h = h
leaves (Deleted n) change old new unlike some h = h

if_some : (b c : Bool) → (if b then Replaced else (if c then Added else Full)) ≡ NoMemoryApplied → ⊥
if_some true c e = cc
if_some false true e = cc
if_some false false e = cc

answers_some : (change : TableMod) (rules : List Rule) (capacity : ℕ) → answer_of change rules capacity ≡ NoMemoryApplied → ⊥
answers_some (Add r) rules capacity e = if_some _ _ e
answers_some (DeleteStrict of priority) rules capacity e = cc
answers_some DeleteAll rules capacity e = cc

leads : (change : Option TableMod) (changes : Bool) (old new : Entries) → overfills_by change old ≡ false → TableBehind change old new → LeadsBy change changes old.rules new.rules
leads None true old new unlike h = tt
leads None false old new unlike h = subst (λ (e : Entries). IsPermutation old.rules e.rules) (sym h) (IsPermutation-refl old.rules)
leads (Some change) changes old new unlike h = leaves (answer_of change old.rules old.capacity) change old new unlike (answers_some change old.rules old.capacity) h.0

-- a table without room stays
full_stays_by : (a : Applied) (change : TableMod) (old new : Entries) → is_full a ≡ true → Leaves a change old new → new ≡ old
full_stays_by Full change old new like h = h
full_stays_by NoMemoryApplied change old new like h = h
full_stays_by Added change old new like h = absurd (false≢true like)
full_stays_by Replaced change old new like h = absurd (false≢true like)
full_stays_by (Deleted n) change old new like h = absurd (false≢true like)

full_stays : (change : Option TableMod) (old new : Entries) → overfills_by change old ≡ true → TableBehind change old new → new ≡ old
full_stays None old new like h = h
full_stays (Some change) old new like h = full_stays_by (answer_of change old.rules old.capacity) change old new like h.0

full_is_mod : (body : Body) (table : Entries) → overfills body table ≡ true → is_flow_mod body ≡ true
full_is_mod (FlowMod of cookie command idle hard priority buffer out_port flags actions) table like = refl
full_is_mod body table like = absurd (false≢true like)

barrier_is : (body : Body) → is_barrier body ≡ true → body ≡ BarrierRequest
barrier_is BarrierRequest like = refl
barrier_is body like = absurd (false≢true like)

-- which answer says what
processed_is : (b : Bool) (x y : ℕ) → Processed x ≡ (if b then Refused y else Processed y) → (b ≡ false) × (y ≡ x)
processed_is true x y e = absurd (cc)
processed_is false x y e = (refl, cc)

refused_is : (b : Bool) (x y : ℕ) → Refused x ≡ (if b then Refused y else Processed y) → (b ≡ true) × (y ≡ x)
refused_is true x y e = (refl, cc)
refused_is false x y e = absurd (cc)

-- what stands ahead of a message that may be next
next_free : (ahead : List Message) (m : Message) (behind : List Message) → IsNext (length ahead) (ahead ++ m ∷ behind) → AllByRecursion NoBarrier ahead
next_free [] m behind h = tt
next_free (a ∷ more) m behind h =
    let within : length (a ∷ more) < free_count (a ∷ more ++ m ∷ behind) = omega arith in
    (free_apart (a ∷ more) m behind within).0

next_barrier : (ahead : List Message) (m : Message) (behind : List Message) → IsNext (length ahead) (ahead ++ m ∷ behind) → is_barrier m.body ≡ true → ahead ≡ []
next_barrier [] m behind h like = refl
next_barrier (a ∷ more) m behind h like =
    let within : length (a ∷ more) < free_count (a ∷ more ++ m ∷ behind) = omega arith in
    absurd (false≢true (sym (free_apart (a ∷ more) m behind within).1 ∙ like))

-- the step of the specification's switch behind a turn
processed_steps : (s t : State) (m : Message) (ahead behind : List Message) (bytes : List ℕ) (faults : ℕ) (old new : Option (List Call))
    → s.pending ≡ ahead ++ m ∷ behind → IsNext (length ahead) (ahead ++ m ∷ behind) → overfills m.body s.table ≡ false
    → IsWritten (option_map (message m.xid) (reply_of s.dpid s.ports m.body)) bytes → TableBehind (change_of m.body) s.table t.table → t.pending ≡ ahead ++ behind
    → Steps (Process m) bytes (meaning_of faults old s) (meaning_of faults new t) ⊎ Steps (Answer m) bytes (meaning_of faults old s) (meaning_of faults new t)
processed_steps s t m ahead behind bytes faults old new stands next fits says table rest = by_kind (is_barrier m.body) refl
  where
    by_kind : (b : Bool) → is_barrier m.body ≡ b
        → Steps (Process m) bytes (meaning_of faults old s) (meaning_of faults new t) ⊎ Steps (Answer m) bytes (meaning_of faults old s) (meaning_of faults new t)
    by_kind false is = inl (record {
      behind = record { dpid = s.dpid; table = t.table.rules; pending = ahead ++ behind; sent = option_to_list (option_map (message m.xid) (reply_of s.dpid s.ports m.body)) };
      does = record {
        ahead = ahead;
        behind = behind;
        stands = record { place = stands; free = next_free ahead m behind next };
        no_barrier = is;
        answers = option_to_list (option_map (message m.xid) (reply_of s.dpid s.ports m.body));
        answered = answers_body s.dpid s.ports m.xid m.body is;
        table = t.table.rules;
        leads = leads (change_of m.body) (is_flow_mod m.body) s.table t.table fits table;
        now_is = refl;
      };
      table = refl;
      pending = rest;
      spell = spelled_out (option_map (message m.xid) (reply_of s.dpid s.ports m.body)) bytes says;
    })
    by_kind true is =
        let body = barrier_is m.body is in
        let first = next_barrier ahead m behind next is in
        let still : t.table ≡ s.table = subst (λ (x : Body). TableBehind (change_of x) s.table t.table) body table in
        inr (record {
          behind = record { dpid = s.dpid; table = s.table.rules; pending = behind; sent = message m.xid BarrierReply ∷ [] };
          does = record { behind = behind; first = stands ∙ ap (λ l. l ++ m ∷ behind) first; barrier = is; now_is = refl };
          table = ap (λ (e : Entries). e.rules) still;
          pending = rest ∙ ap (λ l. l ++ behind) first;
          spell = spelled_out (Some (message m.xid BarrierReply)) bytes (subst (λ (x : Body). IsWritten (option_map (message m.xid) (reply_of s.dpid s.ports x)) bytes) body says);
        })

refused_steps : (s t : State) (m : Message) (ahead behind : List Message) (bytes : List ℕ) (faults : ℕ) (old new : Option (List Call))
    → s.pending ≡ ahead ++ m ∷ behind → IsNext (length ahead) (ahead ++ m ∷ behind) → overfills m.body s.table ≡ true
    → IsWritten (Some (message m.xid refusal)) bytes → TableBehind (change_of m.body) s.table t.table → t.pending ≡ ahead ++ behind
    → Steps (Refuse m) bytes (meaning_of faults old s) (meaning_of faults new t)
refused_steps s t m ahead behind bytes faults old new stands next full says table rest = record {
  behind = record { dpid = s.dpid; table = s.table.rules; pending = ahead ++ behind; sent = message m.xid refusal ∷ [] };
  does = record {
    ahead = ahead;
    behind = behind;
    stands = record { place = stands; free = next_free ahead m behind next };
    change = full_is_mod m.body s.table full;
    kind = 3;
    code = 0;
    bytes = [];
    now_is = refl;
  };
  table = ap (λ (e : Entries). e.rules) (full_stays (change_of m.body) s.table t.table full table);
  pending = rest;
  spell = spelled_out (Some (message m.xid refusal)) bytes says;
}

-- one message less waits
one_less : (ahead behind : List Message) (m : Message) (xs ys : List Message) → xs ≡ ahead ++ m ∷ behind → ys ≡ ahead ++ behind → length xs ≡ length ys + 1
one_less ahead behind m xs ys e f = omega (arith, ap length e, ap length f, length-append ahead (m ∷ behind), length-append ahead behind)

pub turns_meant : (place : ℕ) (answer : Turned) (bytes : List ℕ) (s t : State) (faults : ℕ) (old new : Option (List Call)) → IsNext place s.pending → TurnsAt place s answer bytes t
    → Logs answer NoMemoryTurn (Turning answer bytes) old new → Turns answer bytes (meaning_of faults old s) (meaning_of faults new t)
turns_meant place Nothing bytes s t faults old new next h logs = (
  goes (Turning Nothing bytes) faults old new s t (ap (λ (x : State). x.dpid) h.2) (logs.answered (λ e. cc)),
  record {
    none = h.0;
    still = ap (λ (x : State). x.pending) h.2 ∙ h.0;
    table = λ k. ap (λ (x : State). x.table.rules) h.2;
    sends = λ k. record { ahead = []; behind = []; free_ahead = tt; free_behind = tt; spell = h.1 };
  },
)
turns_meant place (Processed xid) bytes s t faults old new next d logs =
    let m = d.message in
    let p = processed_is (overfills m.body s.table) xid m.xid d.carries.answered in
    let says = subst (λ b. IsWritten (option_map (message m.xid) (if b then Some refusal else reply_of s.dpid s.ports m.body)) bytes) p.0 d.carries.says in
    let here : IsNext (length d.ahead) (d.ahead ++ m ∷ d.behind) = subst (λ ms. IsNext (length d.ahead) ms) d.stands (subst (λ i. IsNext i s.pending) (sym d.at) next) in
    let rest = ap (λ (x : State). x.pending) d.now_is in (
      goes (Turning (Processed xid) bytes) faults old new s t (ap (λ (x : State). x.dpid) d.now_is) (logs.answered (λ e. cc)),
      one_less d.ahead d.behind m s.pending t.pending d.stands rest,
      λ k. (m, p.1, processed_steps s t m d.ahead d.behind bytes faults old new d.stands here p.0 says d.carries.table rest),
    )
turns_meant place (Refused xid) bytes s t faults old new next d logs =
    let m = d.message in
    let p = refused_is (overfills m.body s.table) xid m.xid d.carries.answered in
    let says = subst (λ b. IsWritten (option_map (message m.xid) (if b then Some refusal else reply_of s.dpid s.ports m.body)) bytes) p.0 d.carries.says in
    let here : IsNext (length d.ahead) (d.ahead ++ m ∷ d.behind) = subst (λ ms. IsNext (length d.ahead) ms) d.stands (subst (λ i. IsNext i s.pending) (sym d.at) next) in
    let rest = ap (λ (x : State). x.pending) d.now_is in (
      goes (Turning (Refused xid) bytes) faults old new s t (ap (λ (x : State). x.dpid) d.now_is) (logs.answered (λ e. cc)),
      one_less d.ahead d.behind m s.pending t.pending d.stands rest,
      λ k. (m, p.1, refused_steps s t m d.ahead d.behind bytes faults old new d.stands here p.0 says d.carries.table rest),
    )
turns_meant place FailedTurn bytes s t faults old new next h logs = absurd h
turns_meant place NoMemoryTurn bytes s t faults old new next h logs = (stays faults old new s t h.1 (logs.lacking refl), h.0)

-- ---- turns that refuse

refused_first : (s t : State) (xid : ℕ) (bytes : List ℕ) → RefusesMod xid s bytes t → Turns (Refused xid) bytes (meaning_of 0 None s) (meaning_of 0 None t)
refused_first s t xid bytes d =
    let m = d.message in
    let rest = ap (λ (x : State). x.pending) d.now_is in (
      goes (Turning (Refused xid) bytes) 0 None None s t (ap (λ (x : State). x.dpid) d.now_is) refl,
      one_less [] d.behind m s.pending t.pending d.first rest,
      λ k. (
        m,
        sym d.id,
        record {
          behind = record { dpid = s.dpid; table = s.table.rules; pending = d.behind; sent = message m.xid refusal ∷ [] };
          does = record { ahead = []; behind = d.behind; stands = record { place = d.first; free = tt }; change = d.change; kind = 3; code = 0; bytes = []; now_is = refl };
          table = ap (λ (x : State). x.table.rules) d.now_is;
          pending = rest;
          spell = spelled_out (Some (message m.xid refusal)) bytes d.says;
        },
      ),
    )

pub refusing_meant : (due : Bool) (answer : Turned) (bytes : List ℕ) (s t : State) → TurnsBy due s answer bytes t → Turns answer bytes (meaning_of 0 None s) (meaning_of 0 None t)
refusing_meant true (Refused xid) bytes s t h = refused_first s t xid bytes h
refusing_meant true NoMemoryTurn bytes s t h = (ap (λ (x : State). meaning_of 0 None x) h.1, h.0)
refusing_meant true answer bytes s t h = absurd h
refusing_meant false answer bytes s t h = turns_meant 0 answer bytes s t 0 None None (omega arith) h (record { lacking = λ e. refl; answered = λ f. refl })

-- ---- packets

pub packets_meant : (port : ℕ) (frame : List ℕ) (seen : Seen) (bytes : List ℕ) (s t : State) (faults : ℕ) (old new : Option (List Call)) → t ≡ s → Sees port frame s.table seen bytes
    → Logs seen NoMemoryLook (Looking port frame seen bytes) old new → Packets port frame seen bytes (meaning_of faults old s) (meaning_of faults new t)
packets_meant port frame (Hit actions) bytes s t faults old new same h logs = (
  goes (Looking port frame (Hit actions) bytes) faults old new s t (ap (λ (x : State). x.dpid) same) (logs.answered (λ e. cc)),
  ap (λ (x : State). length x.pending) same,
  λ k. record {
    found = h.0;
    table = ap (λ (x : State). x.table.rules) same;
    pending = ap (λ (x : State). x.pending) same;
    sent = [];
    free = tt;
    spell = h.1;
    tells = λ miss. absurd miss;
  },
)
packets_meant port frame (Miss reason) bytes s t faults old new same h logs =
    let m = packet_in port frame reason in (
      goes (Looking port frame (Miss reason) bytes) faults old new s t (ap (λ (x : State). x.dpid) same) (logs.answered (λ e. cc)),
      ap (λ (x : State). length x.pending) same,
      λ k. record {
        found = h.0;
        table = ap (λ (x : State). x.table.rules) same;
        pending = ap (λ (x : State). x.pending) same;
        sent = m ∷ [];
        free = (tt, tt);
        spell = (bytes, [], sym (append-nil bytes), h.1.1, refl);
        tells = λ miss. (m, Contains-push [] m, _, _, _, _, _, refl);
      },
    )
packets_meant port frame FailedLook bytes s t faults old new same h logs = absurd h
packets_meant port frame NoMemoryLook bytes s t faults old new same h logs = (stays faults old new s t same (logs.lacking refl), h)

-- ---- those that tell no calls

pub untold : {A : Type 0} (answer none : A) (call : Call) → Logs answer none call None None
untold answer none call = record { lacking = λ e. refl; answered = λ f. refl }

-- ---- those that fail

pub failed : (call : Call) (s t : State) (old new : ℕ) → t ≡ s → old ≤ new → new ≡ next_count old → Fails call (meaning_of old None s) (meaning_of new None t)
failed call s t old new same grown next = record {
  tells = record { dpid = ap (λ (x : State). x.dpid) same; keeps = refl; log = refl };
  later = grown;
  risen = omega arith;
  table = ap (λ (x : State). x.table.rules) same;
  pending = ap (λ (x : State). x.pending) same;
}

-- ---- those that tell their calls

pub told : {A : Type 0} (answer none : A) (call : Call) (old new : List Call) → (answer ≡ none → ⊥) → new ≡ old ++ call ∷ [] → Logs answer none call (Some old) (Some new)
told answer none call old new some same = record { lacking = λ e. absurd (some e); answered = λ f. ap Some same }

-- no answer is longer than a message
pub short_written : (m : Message) (bytes : List ℕ) → IsWritten (Some m) bytes → length bytes ≤ 65535
short_written m bytes h =
    let whole = subst (λ b. number_at 2 2 b ≡ length b) h.0 h.1.header.whole in
    omega (arith, ap length h.0)

short_maybe : (o : Option Message) (bytes : List ℕ) → IsWritten o bytes → length bytes ≤ 65535
short_maybe None bytes h = omega (arith, ap length h)
short_maybe (Some m) bytes h = short_written m bytes h

pub short_turn : (place : ℕ) (s t : State) (answer : Turned) (bytes : List ℕ) → TurnsAt place s answer bytes t → length bytes ≤ 65535
short_turn place s t Nothing bytes h = omega (arith, ap length h.1)
short_turn place s t (Processed xid) bytes h = short_maybe (answer_to s.dpid s.ports h.message s.table) bytes h.carries.says
short_turn place s t (Refused xid) bytes h = short_maybe (answer_to s.dpid s.ports h.message s.table) bytes h.carries.says
short_turn place s t FailedTurn bytes h = absurd h
short_turn place s t NoMemoryTurn bytes h = omega (arith, ap length h.0)

pub short_look : (port : ℕ) (frame : List ℕ) (table : Entries) (seen : Seen) (bytes : List ℕ) → Sees port frame table seen bytes → length bytes ≤ 65535
short_look port frame table (Hit actions) bytes h = omega (arith, ap length h.1)
short_look port frame table (Miss reason) bytes h = short_written (packet_in port frame reason) bytes h.1
short_look port frame table FailedLook bytes h = absurd h
short_look port frame table NoMemoryLook bytes h = omega (arith, ap length h)

pub turn_unless_failed : (s t : State) (answer : Turned) (bytes : List ℕ) → TurnsAt 0 s answer bytes t → TurnsUnlessFailed s answer bytes t
turn_unless_failed s t Nothing bytes h = h
turn_unless_failed s t (Processed xid) bytes h = h
turn_unless_failed s t (Refused xid) bytes h = h
turn_unless_failed s t FailedTurn bytes h = absurd h
turn_unless_failed s t NoMemoryTurn bytes h = h

pub look_unless_failed : (port : ℕ) (frame : List ℕ) (table : Entries) (seen : Seen) (bytes : List ℕ) → Sees port frame table seen bytes → SeesUnlessFailed port frame table seen bytes
look_unless_failed port frame table (Hit actions) bytes h = h
look_unless_failed port frame table (Miss reason) bytes h = h
look_unless_failed port frame table FailedLook bytes h = absurd h
look_unless_failed port frame table NoMemoryLook bytes h = h
