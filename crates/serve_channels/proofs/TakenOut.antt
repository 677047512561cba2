-- What the machine has for a connection is taken out.
use Rattle.std.proofs.Common.{◌≡◌, ◌≢◌, ℕ, ◌==◌, Bool, true, false, cond, ◌||◌, List, [], ◌∷◌, ◌++◌, None, append-nil, append_assoc, eq-eqb, refl, sym, ap, ◌∙◌}
use Rattle.std.specs.Prelude.{Some}
use Rattle.std.specs.List.{list_any, slice_get}
use Rattle.std.proofs.lemmas.Bool.{ne_eqb}
use Rattle.maple_io.specs.declared.act.Act.{Act}
use Rattle.maple_io.specs.Boards.{sent, was_closed, was_opened}
use Rattle.machine_steps.specs.Machine.{State}
use Rattle.machine_steps.specs.declared.entry.Entry.{Entry}
use Rattle.machine_steps.specs.declared.entry.Entry.TheVariants as entries
use Rattle.machine_steps.specs.declared.reply.Reply.{Reply}
use Rattle.machine_steps.specs.declared.reply.Reply.TheVariants as replies
use Rattle.machine_steps.specs.Histories.{Turn}
use Rattle.machine_desk.specs.Hearing.{IsStaged}
use Rattle.machine_desk.specs.Desks.{Enters as EntersDesk, turn}
use Rattle.core_machine.proofs.Hearing.{set_there}
use Rattle.serve_steps.specs.Deeds.{Past, acts_of, inputs_of, taken_of, takes_out}
use Rattle.serve_steps.specs.Deeds.Deed.{Enters}
use Rattle.serve_steps.specs.Laws.{entered}
use Rattle.serve_steps.specs.Parts.{Given}
use Rattle.serve_channels.specs.declared.connection.Connection.{Connection}
use Rattle.serve_channels.specs.declared.server.Server.{Server}
use Rattle.serve_channels.specs.Delivering.{TakesOut}
use Rattle.serve_channels.specs.Keeping.{Agrees, IsKept}
use Rattle.serve_channels.specs.Servers.{IsSame, WorksAlone, number_of}
use Rattle.serve_channels.specs.Serving.{ServingLaws}
use Rattle.serve_channels.specs.Stretches.{IsAside}
use Rattle.serve_channels.proofs.Alike.{aside_turn, spares_another, heard_same}
use Rattle.serve_channels.proofs.Entering.{IsUnderWay, begins, next_session}
use Rattle.serve_channels.proofs.Entries.{ahead_now, between, entry_jobs, goes_with_one, next_ahead, others_ahead, own_turn, unheard}
use Rattle.serve_channels.proofs.Kept.{staged_still, same_but}
use Rattle.serve_channels.proofs.Others.{IsLawful, meanwhile_others, others_aside}
use Rattle.serve_channels.proofs.Stretching.{aside_nothing}

-- what the connection is behind it
abbrev pub with_more : Connection → List ℕ → Connection
with_more k bytes = record k { queue = record k.queue { rest = k.queue.rest ++ bytes } }

own_bytes : (c : ℕ) (bytes : List ℕ) → cond (c == c) bytes [] ≡ bytes
own_bytes c bytes = ap (λ (b : Bool). cond b bytes []) (eq-eqb c c refl)

-- the machine's turn
abbrev pub taking : State → ℕ → List ℕ → State → Turn
taking before c bytes behind = turn before (entries.TakeOut c) (replies.Out bytes) behind

agrees_more : (past : Past) (k : Connection) (bytes : List ℕ) (before behind : State) → Agrees past k
    → Agrees (Enters (taking before (number_of k) bytes behind) ∷ past) (with_more k bytes)
agrees_more past k bytes before behind a = record {
  queue = a.queue;
  begun = a.begun;
  live = a.live;
  over = a.over;
  cut = a.cut;
  step =
      ap (λ (bs : List ℕ). taken_of (number_of k) past ++ bs) (own_bytes (number_of k) bytes) ∙ ap (λ (bs : List ℕ). bs ++ bytes) a.step
      ∙ append_assoc (sent (number_of k) (acts_of past)) k.queue.rest bytes
      ∙ ap (λ (log : List Act). sent (number_of k) log ++ (k.queue.rest ++ bytes)) (sym (append-nil (acts_of past)));
  failed = a.failed;
  heard = λ live.
      heard_same (number_of k) past (Enters (taking before (number_of k) bytes behind) ∷ past) k.inbound.from.stream (append-nil (inputs_of (number_of k) past)) refl
      (a.heard live);
  opened = ap (was_opened (number_of k)) (append-nil (acts_of past)) ∙ a.opened;
  closed = ap (was_closed (number_of k)) (append-nil (acts_of past)) ∙ a.closed;
}

-- ---- the call

-- what was done: behind what others did the machine's turn
abbrev pub took : (at : ℕ) (a b : Server) → TakesOut at a b → Past
took at a b h = Enters (taking h.asks.enters.between (number_of h.connection) h.bytes b.desk.now) ∷ entered h.asks.enters.others []

-- so far this was done for the connection with this index, and nothing with another
pub record ServesSoFar (at : ℕ) (k : Connection) (g : Given) (before : List Act) (past : Past) (done : Past) (log : List Act) (s : Server) : Type 0 where
  pub under_way : IsUnderWay g before past None [] done log s
  pub jobs : WorksAlone s → s.desk.now.jobs ≡ []
  pub there : slice_get s.connections.items at ≡ Some k
  pub aside : (c : ℕ) → c ≢ number_of k → IsAside c done
  pub taken : list_any (takes_out (number_of k)) done ≡ true

module _ (laws : ServingLaws) {g : Given} {before : List Act} {past : Past} {log : List Act} {at : ℕ} {a b : Server} (kept : IsKept g before past log a) (law : IsLawful a.desk)
    (h : TakesOut at a b) where
  abbrev k : Connection
  k = h.connection

  abbrev entry : Entry
  entry = entries.TakeOut (number_of k)

  abbrev reply : Reply
  reply = replies.Out h.bytes

  abbrev enters : EntersDesk a.desk entry reply b.desk
  enters = h.asks.enters

  same : IsSame a b
  same = same_but a b h.rest enters.footing

  abbrev deeds : Past
  deeds = entered enters.others []

  start : IsUnderWay g before past None [] [] log a
  start = begins kept law

  mid : IsUnderWay g before past None [] deeds log (between a b enters)
  mid = ahead_now laws start b enters

  another : (c : ℕ) → c ≢ number_of k → (number_of k == c) ≡ false
  another c other = ne_eqb (number_of k) c (λ e. other (sym e))

  staged : IsStaged k.inbound b.desk.now
  staged =
      staged_still k.inbound enters.between b.desk.now (next_session laws mid.law (next_ahead a b enters) (number_of k) (λ e. cc e) refl)
      (mid.kept.sessions.staged at k h.there)

  pub serves_taken : ServesSoFar at (with_more k h.bytes) g before past (took at a b h) log b
  serves_taken = record {
    under_way =
        goes_with_one laws start b enters same (unheard a b enters None (deeds ++ past) refl refl refl refl)
        refl at k (with_more k h.bytes) h.there h.connections refl another (agrees_more (deeds ++ past) k h.bytes enters.between b.desk.now) staged;
    jobs = entry_jobs a b enters laws law same refl kept.jobs;
    there = ap (λ (ks : List Connection). slice_get ks at) h.connections ∙ set_there a.connections.items at k (with_more k h.bytes) h.there;
    aside = λ c other.
        aside_turn c (own_turn a b enters) deeds (spares_another c (own_turn a b enters) (another c other))
        (others_aside c enters.others [] (meanwhile_others laws law (others_ahead a b enters).meanwhile) (aside_nothing c));
    taken = ap (λ (b : Bool). b || list_any (takes_out (number_of k)) deeds) (eq-eqb (number_of k) (number_of k) refl);
  }
