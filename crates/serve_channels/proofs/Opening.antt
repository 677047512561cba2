-- A session is opened.
use Rattle.std.proofs.Common.{◌≡◌, ◌⊎◌, ℕ, ◌+◌, Bool, true, false, not, ◌&&◌, ◌||◌, ◌==◌, List, [], ◌∷◌, ◌++◌, length, None, append-nil, refl, sym, ap, ◌∙◌, subst, inl, inr}
use Rattle.std.specs.List.{insert}
use Rattle.std.proofs.lemmas.Bool.{eq-eqb, ne_eqb}
use Rattle.maple_io.specs.declared.act.Act.{Act}
use Rattle.maple_io.specs.Boards.{sent, was_closed, was_opened}
use Rattle.of10_stream.specs.Steps.{Stream, beginning}
use Rattle.board_lines.specs.Queues.{QueueView}
use Rattle.switch_session.specs.declared.told.End.TheVariants as ends_by
use Rattle.machine_steps.specs.declared.entry.Entry.{Entry}
use Rattle.machine_steps.specs.declared.entry.Entry.TheVariants as entries
use Rattle.machine_steps.specs.declared.reply.Reply.{Reply}
use Rattle.machine_steps.specs.declared.reply.Reply.TheVariants as replies
use Rattle.machine_steps.specs.Histories.{Turn}
use Rattle.machine_steps.specs.Machine.{State}
use Rattle.machine_steps.specs.Machine.{was_opened as was_session}
use Rattle.machine_moves.specs.Told.{is_end}
use Rattle.machine_desk.specs.Desks.{DeskLaw, Enters as EntersDesk, turn}
use Rattle.machine_desk.specs.Hearing.{IsStaged, Opens, is_live, stage_opened, was_begun}
use Rattle.machine_desk.specs.declared.inbound.Inbound.{Inbound}
use Rattle.machine_desk.proofs.Replies.{had_memory}
use Rattle.world_steps.specs.Worlds.{lacks_memory}
use Rattle.serve_steps.specs.Deeds.{Past, acts_of, bytes_of, inputs_of, is_over, opens_by, taken_of, tells_end, tells_link_end, was_accepted, was_cut}
use Rattle.serve_steps.specs.Deeds.Deed.{Enters}
use Rattle.serve_steps.specs.Laws.{entered}
use Rattle.serve_steps.proofs.Entered.{entered_ahead}
use Rattle.serve_channels.specs.declared.connection.Connection.{Connection}
use Rattle.serve_channels.specs.declared.server.Server.{Server}
use Rattle.serve_channels.specs.Keeping.{Agrees, Are, GoesFrom, IsBegun}
use Rattle.serve_channels.specs.Servers.{IsGap, IsSame}
use Rattle.serve_channels.specs.Serving.{ServingLaws}
use Rattle.serve_channels.proofs.Alike.{IsAlike, unused_alike}
use Rattle.serve_channels.proofs.Entering.{begins, is_over_now}
use Rattle.serve_channels.proofs.Entries.{entry_jobs, goes_with_new, others_ahead, own_turn, unheard}
use Rattle.serve_channels.proofs.Others.{bytes_entered, lawful, meanwhile_others, meanwhile_session, others_alike}
use Rattle.serve_channels.proofs.Replies.{opened_so}

-- ---- a new connection

-- what an opening tells, by its reply
record IsOpened (c : ℕ) (r : Reply) : Type 0 where
  pub opens_is : opens_by c (entries.Open c) r ≡ not (is_end r)
  pub ends_is : ((c == c) && tells_end r) ≡ is_end r
  pub cuts_not : ((c == c) && tells_link_end r) ≡ false

opened_by : (c : ℕ) (r : Reply) → (r ≡ replies.Done) ⊎ (r ≡ replies.Ended ends_by.Full) → IsOpened c r
opened_by c r (inl e) = subst (IsOpened c) (sym e) (record { opens_is = eq-eqb c c refl; ends_is = rw (eq-eqb c c refl) refl; cuts_not = rw (eq-eqb c c refl) refl })
opened_by c r (inr e) = subst (IsOpened c) (sym e) (record { opens_is = refl; ends_is = rw (eq-eqb c c refl) refl; cuts_not = rw (eq-eqb c c refl) refl })

open_so : (x : Bool) → ((not x || false) && not (x || false)) ≡ is_live (stage_opened x)
open_so true = refl
open_so false = refl

begun_so : (x : Bool) → was_begun (stage_opened x) ≡ true
begun_so true = refl
begun_so false = refl

over_so : (x : Bool) → (x || false) ≡ not (is_live (stage_opened x))
over_so true = refl
over_so false = refl

module _ (past : Past) (i : Inbound) (q : QueueView) (before behind : State) (r : Reply) (begun : IsBegun i.connection past) (stream : i.from.stream ≡ beginning)
    (number : q.number ≡ i.connection) (rest : q.rest ≡ []) (whole : q.failed ≡ false) (h : IsOpened i.connection r) where
  abbrev c : ℕ
  c = i.connection

  abbrev t : Turn
  t = turn before (entries.Open c) r behind

  abbrev l : Connection
  l = record { inbound = record i { stage = stage_opened (is_end r) }; queue = q; cut = false }

  accepted_now : was_accepted c (Enters t ∷ past) ≡ (not (is_end r) || false)
  accepted_now = ap (λ x. x || was_accepted c past) h.opens_is ∙ ap (λ x. not (is_end r) || x) begun.0.unaccepted

  over_now : is_over c (Enters t ∷ past) ≡ (is_end r || false)
  over_now = ap (λ x. x || is_over c past) h.ends_is ∙ ap (λ x. is_end r || x) begun.0.not_over

  none_heard : inputs_of c (Enters t ∷ past) ≡ []
  none_heard = append-nil (inputs_of c past) ∙ begun.0.unheard

  new_agrees : Agrees (Enters t ∷ past) l
  new_agrees = record {
    queue = number;
    begun = begun_so (is_end r);
    live = ap (λ x. x && not (is_over c (Enters t ∷ past))) accepted_now ∙ ap (λ x. (not (is_end r) || false) && not x) over_now ∙ open_so (is_end r);
    over = over_now ∙ over_so (is_end r);
    cut = sym (ap (λ x. x || was_cut c past) h.cuts_not ∙ begun.0.uncut);
    step =
        append-nil (taken_of c past) ∙ begun.0.untaken
        ∙ sym (ap (λ xs. sent c (acts_of (Enters t ∷ past)) ++ xs) rest ∙ append-nil (sent c (acts_of (Enters t ∷ past)))
        ∙ ap (sent c) (append-nil (acts_of past)) ∙ begun.0.unsent);
    failed = whole ∙ sym begun.0.unfailed;
    heard = λ live. record {
      cut = rw none_heard (ap (λ (s : Stream). s.rest) stream ∙ sym begun.2);
      place = ap (λ (s : Stream). s.place + length s.rest) stream ∙ ap length (sym begun.2);
      unbroken = ap (λ (s : Stream). s.broken) stream;
      messages = rw none_heard refl;
    };
    opened = ap (was_opened c) (append-nil (acts_of past)) ∙ begun.1;
    closed = ap (was_closed c) (append-nil (acts_of past)) ∙ begun.0.unclosed;
  }

-- so it is still where others did what they may
begun_alike : (c : ℕ) (a b : Past) → IsAlike c a b → bytes_of c b ≡ bytes_of c a → IsBegun c a → IsBegun c b
begun_alike c a b h came begun = (unused_alike c a b h begun.0, h.opened begun.1, came ∙ begun.2)

-- ---- the call

module _ (laws : ServingLaws) (a b : Server) (i j : Inbound) (q : QueueView) (law : DeskLaw a.desk) (stream : i.from.stream ≡ beginning) (number : q.number ≡ i.connection)
    (rest : q.rest ≡ []) (whole : q.failed ≡ false) (unused : was_session i.connection a.desk.now ≡ false)
    (h : Opens a.desk i b.desk j) (staged : IsStaged j b.desk.now) (same : IsSame a b)
    (at : ℕ) (gap : IsGap at i.connection a.connections.items)
    (insert_is : b.connections.items ≡ insert a.connections.items at (record { inbound = j; queue = q; cut = false })) where
  abbrev entry : Entry
  entry = entries.Open i.connection

  abbrev k : Connection
  k = record { inbound = j; queue = q; cut = false }

  abbrev enters : EntersDesk a.desk entry h.reply b.desk
  enters = h.asks.enters

  memory : lacks_memory h.reply ≡ false
  memory = had_memory h.reply h.asks.memory

  abbrev did_before : Past
  did_before = entered enters.others []

  new_one : was_session i.connection enters.between ≡ false
  new_one = (meanwhile_session laws (lawful law) (others_ahead a b enters).meanwhile i.connection).opened ∙ unused

  number_is : j.connection ≡ i.connection
  number_is = ap (λ (x : Inbound). x.connection) h.stage

  here : (past : Past) → IsBegun i.connection past → Agrees (Enters (own_turn a b enters) ∷ past) k
  here past begun =
      subst (λ (x : Inbound). Agrees (Enters (own_turn a b enters) ∷ past) (record { inbound = x; queue = q; cut = false })) (sym h.stage)
      (new_agrees past i q enters.between b.desk.now h.reply begun stream number rest whole
      (opened_by i.connection h.reply (opened_so i.connection enters.between h.reply b.desk.now new_one memory enters.made.steps)))

  begun_now : (past : Past) → IsBegun i.connection past → IsBegun i.connection (did_before ++ past)
  begun_now past begun =
      subst (IsBegun i.connection) (sym (entered_ahead enters.others [] past)) (begun_alike i.connection past (entered enters.others past)
      (others_alike i.connection enters.others past (meanwhile_others laws (lawful law) (others_ahead a b enters).meanwhile))
      (bytes_entered i.connection enters.others past) begun)

  pub open_goes : (log : List Act) → GoesFrom (IsBegun i.connection) (Are (entry ∷ [])) a log b log
  open_goes log g before past kept begun =
      is_over_now (Are (entry ∷ []) past) (goes_with_new laws (begins kept (lawful law)) b enters same
      (unheard a b enters None (did_before ++ past) refl refl refl memory) refl at k
      (subst (λ n. IsGap at n a.connections.items) (sym number_is) gap) insert_is
      (λ n other. ne_eqb i.connection n (λ e. other (sym e ∙ sym number_is))) (here (did_before ++ past) (begun_now past begun)) staged)
      refl (entry_jobs a b enters laws (lawful law) same refl kept.jobs)
