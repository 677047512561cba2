-- The session of a connection ends, as its link is over.
use Rattle.std.proofs.Common.{◌≡◌, ℕ, Bool, true, false, not, ◌&&◌, ◌||◌, ◌==◌, List, [], ◌∷◌, ◌++◌, set, Option, None, append-nil, refl, sym, ap, ◌∙◌, subst}
use Rattle.std.proofs.Math.Bool.{and-false, or_comm}
use Rattle.std.specs.Prelude.{is_some}
use Rattle.std.proofs.lemmas.Bool.{eq-eqb, ne_eqb}
use Rattle.maple_io.specs.declared.act.Act.{Act}
use Rattle.maple_io.specs.Boards.{sent, was_closed, was_opened}
use Rattle.machine_steps.specs.declared.entry.Entry.{Entry}
use Rattle.machine_steps.specs.declared.entry.Entry.TheVariants as entries
use Rattle.machine_steps.specs.declared.reply.Reply.{Reply}
use Rattle.machine_steps.specs.Histories.{Turn}
use Rattle.machine_steps.specs.Machine.{State, session_at}
use Rattle.machine_steps.specs.Steps.{Steps}
use Rattle.machine_moves.specs.Told.{is_end}
use Rattle.machine_desk.specs.Desks.{Enters as EntersDesk, turn}
use Rattle.machine_desk.specs.Hearing.{IsStaged, is_live}
use Rattle.machine_desk.specs.declared.inbound.Inbound.{Inbound}
use Rattle.machine_desk.specs.declared.inbound.Stage.TheVariants.{Over}
use Rattle.machine_desk.proofs.Replies.{gone_none, gone_live, gone_enough}
use Rattle.machine_desk.specs.Next.{EntersNext}
use Rattle.machine_desk.proofs.Lists.{some_at}
use Rattle.serve_steps.specs.Deeds.{Past, acts_of, is_over, taken_of, tells_end, tells_link_end, was_accepted, was_cut}
use Rattle.serve_steps.specs.Deeds.Deed.{Enters}
use Rattle.serve_steps.specs.Laws.{entered}
use Rattle.serve_steps.specs.Parts.{Given, ends_due, entry_if, keeps_due}
use Rattle.serve_channels.specs.declared.connection.Connection.{Connection}
use Rattle.serve_channels.specs.declared.server.Server.{Server}
use Rattle.serve_channels.specs.Delivering.{Leaves}
use Rattle.serve_channels.specs.Keeping.{Agrees, Are, Goes}
use Rattle.serve_channels.specs.Servers.{IsMissing, IsSame, WorksAlone, number_of}
use Rattle.serve_channels.specs.Serving.{ServingLaws}
use Rattle.serve_channels.proofs.Alike.{Spares, spares_gone}
use Rattle.serve_channels.proofs.Entering.{IsUnderWay, begins, is_over_now, next_opened, next_session}
use Rattle.serve_channels.proofs.Entries.{ahead_now, between, entry_jobs, goes_with_none, goes_with_one, next_ahead, own_turn, unheard}
use Rattle.serve_channels.proofs.Kept.{IsKeptBut}
use Rattle.serve_channels.proofs.Others.{IsLawful}
use Rattle.serve_channels.proofs.Replies.{cut_by}

-- ---- a turn that tells the machine so

-- what it tells, where the session was open or not
pub record IsGone (live fault : Bool) (r : Reply) : Type 0 where
  pub ends_is : tells_end r ≡ live
  pub cuts_is : tells_link_end r ≡ live
  pub told_is : is_end r ≡ live

gone_by : (c : ℕ) (fault live : Bool) (old : State) (r : Reply) (new : State) → is_some (session_at c old) ≡ live → Steps old (entries.Gone c fault) r new → IsGone live fault r
gone_by c fault true old r new some steps =
    subst (IsGone true fault) (sym (gone_live c fault old r new some steps)) (record { ends_is = refl; cuts_is = cut_by fault; told_is = refl })
gone_by c fault false old r new none steps =
    subst (IsGone false fault) (sym (gone_none c fault old r new none steps)) (record { ends_is = refl; cuts_is = refl; told_is = refl })

-- ---- the connection, behind it

or_not : (live : Bool) → (live || not live) ≡ true
or_not true = refl
or_not false = refl

-- its session ended
abbrev pub left_so : Connection → Connection
left_so k = record k { inbound = record k.inbound { stage = Over }; cut = k.cut || is_live k.inbound.stage }

module _ (past : Past) (k : Connection) (fault : Bool) (before behind : State) (r : Reply) (agrees : Agrees past k) (h : IsGone (is_live k.inbound.stage) fault r) where
  abbrev n : ℕ
  n = number_of k

  abbrev t : Turn
  t = turn before (entries.Gone n fault) r behind

  over_now : is_over n (Enters t ∷ past) ≡ true
  over_now =
      ap (λ x. (x && tells_end r) || is_over n past) (eq-eqb n n refl) ∙ ap (λ x. x || is_over n past) h.ends_is
      ∙ ap (λ x. is_live k.inbound.stage || x) agrees.over ∙ or_not (is_live k.inbound.stage)

  pub left_agrees : Agrees (Enters t ∷ past) (left_so k)
  left_agrees = record {
    queue = agrees.queue;
    begun = refl;
    live = ap (λ x. was_accepted n past && not x) over_now ∙ and-false (was_accepted n past);
    over = over_now;
    cut =
        ap (λ x. x || is_live k.inbound.stage) agrees.cut ∙ or_comm (was_cut n past) (is_live k.inbound.stage)
        ∙ sym (ap (λ x. (x && tells_link_end r) || was_cut n past) (eq-eqb n n refl) ∙ ap (λ x. x || was_cut n past) h.cuts_is);
    step = append-nil (taken_of n past) ∙ agrees.step ∙ ap (λ xs. xs ++ k.queue.rest) (sym (ap (sent n) (append-nil (acts_of past))));
    failed = agrees.failed;
    heard = λ live. absurd (cc);
    opened = ap (was_opened n) (append-nil (acts_of past)) ∙ agrees.opened;
    closed = ap (was_closed n) (append-nil (acts_of past)) ∙ agrees.closed;
  }

-- ---- an entry that tells so

module _ {at : ℕ} {fault : Bool} {a b : Server} (h : Leaves at fault a b) where
  abbrev k : Connection
  k = h.connection

  abbrev pub gone : Entry
  gone = entries.Gone (number_of k) fault

  abbrev pub gone_enters : EntersDesk a.desk gone h.does.reply b.desk
  gone_enters = h.does.enters

  abbrev mid : Server
  mid = between a b gone_enters

  next : EntersNext gone h.does.reply mid.desk b.desk
  next = next_ahead a b gone_enters

  abbrev pub gone_turn : Turn
  gone_turn = own_turn a b gone_enters

  set_so : b.connections.items ≡ set a.connections.items at (left_so k)
  set_so =
      h.all
      ∙ ap (λ (i : Inbound). set a.connections.items at (record k { inbound = i; cut = k.cut || is_live k.inbound.stage })) h.does.stage

  module _ (laws : ServingLaws) (law : IsLawful a.desk) (same : IsSame a b) where
    module _ {g : Given} {before : List Act} {past : Past} {log : List Act} (kept : IsKeptBut g before past log mid) (lawful_mid : IsLawful mid.desk) where
      told_gone : IsGone (is_live k.inbound.stage) fault h.does.reply
      told_gone = gone_by (number_of k) fault (is_live k.inbound.stage) mid.desk.now h.does.reply b.desk.now (kept.sessions.staged at k h.there).live next.made.steps

      here : Agrees (Enters gone_turn ∷ past) (left_so k)
      here = left_agrees past k fault mid.desk.now b.desk.now h.does.reply (kept.agree at k h.there) told_gone

      shut : (live : Bool) → is_live k.inbound.stage ≡ live → is_some (session_at (number_of k) b.desk.now) ≡ false
      shut true is =
          (let some = some_at (session_at (number_of k) mid.desk.now) ((kept.sessions.staged at k h.there).live ∙ is) in
          laws.driving.ends mid.desk.now gone h.does.reply b.desk.now lawful_mid.sound next.made.steps (number_of k) some.0 some.1
          ∙ ap (λ x. not (x && is_end h.does.reply)) (eq-eqb (number_of k) (number_of k) refl) ∙ ap not (told_gone.told_is ∙ is))
      shut false is =
          (next_session laws lawful_mid next (number_of k) (λ e. absurd (cc))
          (ap (λ x. (number_of k == number_of k) && x) (told_gone.told_is ∙ is) ∙ and-false (number_of k == number_of k))).live
          ∙ (kept.sessions.staged at k h.there).live ∙ is

      staged : IsStaged (left_so k).inbound b.desk.now
      staged = record {
        live = shut (is_live k.inbound.stage) refl;
        opened =
            next_opened laws lawful_mid next (number_of k) (λ e. absurd (cc))
            ∙ (kept.sessions.staged at k h.there).opened ∙ (kept.agree at k h.there).begun;
      }

    -- so the call goes on, whoever's failed send isn't told of yet
    pub goes_gone : {g : Given} {before : List Act} {past : Past} {to : Option ℕ} {own : List Entry} {done : Past} {log : List Act}
        → IsUnderWay g before past to own done log a → keeps_due to (Enters gone_turn) ≡ true
        → IsUnderWay g before past None (own ++ entry_if (true && not (ends_due to gone)) gone) (Enters gone_turn ∷ entered gone_enters.others done) log b
    goes_gone {past = past} {to = to} {done = done} u keeps =
        let v = ahead_now laws u b gone_enters in
        goes_with_one laws u b gone_enters same (unheard a b gone_enters to (entered gone_enters.others done ++ past) refl refl keeps
        (gone_enough (number_of k) fault mid.desk.now h.does.reply b.desk.now next.made.steps)) refl at k (left_so k) h.there set_so refl
        (λ n other. ne_eqb (number_of k) n (λ e. other (sym e))) (λ agrees. here v.kept v.law) (staged v.kept v.law)

    pub gone_jobs : (WorksAlone a → a.desk.now.jobs ≡ []) → WorksAlone b → b.desk.now.jobs ≡ []
    gone_jobs = entry_jobs a b gone_enters laws law same refl

    pub leaves_goes : (log : List Act) → Goes (Are (gone ∷ [])) a log b log
    leaves_goes log g before past kept pre = is_over_now (Are (gone ∷ []) past) (goes_gone (begins kept law) refl) refl (gone_jobs kept.jobs)

-- ---- of a number that isn't there

module _ (laws : ServingLaws) (c : ℕ) (fault : Bool) (r : Reply) (a b : Server) (law : IsLawful a.desk) (same : IsSame a b) (missing : IsMissing c a.connections.items)
    (items : b.connections.items ≡ a.connections.items) (h : EntersDesk a.desk (entries.Gone c fault) r b.desk) where
  abbrev entry : Entry
  entry = entries.Gone c fault

  pub missing_goes : (log : List Act) → Goes (Are (entry ∷ [])) a log b log
  missing_goes log g before past kept pre =
      let u = begins kept law in
      let v = ahead_now laws u b h in
      let nobody = gone_none c fault h.between r b.desk.now (v.kept.sessions.others c (missing v.kept.sorted)) h.made.steps in
      is_over_now (Are (entry ∷ []) past) (goes_with_none laws u b h same
      (unheard a b h None (entered h.others [] ++ past) refl refl refl (gone_enough c fault h.between r b.desk.now h.made.steps)) refl items
      (λ n. subst (λ (x : Reply). Spares n (turn h.between entry x b.desk.now)) (sym nobody) (spares_gone n h.between b.desk.now c fault)) (λ n e. absurd (cc))
      (λ n. ap (λ (x : Reply). (c == n) && is_end x) nobody ∙ and-false (c == n))) refl (entry_jobs a b h laws law same refl kept.jobs)
