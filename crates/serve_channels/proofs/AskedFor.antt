-- What was asked for was entered, one call behind the other.
use Rattle.std.proofs.Common.{◌≡◌, ℕ, Bool, true, false, List, [], ◌∷◌, ◌++◌, None, refl, subst, inl, inr}
use Rattle.maple_io.specs.declared.act.Act.{Act}
use Rattle.machine_desk.specs.Desks.{DeskLaw, DeskView}
use Rattle.machine_desk.specs.Orders.{Asked, refusal}
use Rattle.machine_desk.specs.Orders.{Renews as RenewsAtDesk}
use Rattle.machine_desk.proofs.Tended.{same_by}
use Rattle.machine_desk.proofs.Replies.{had_memory}
use Rattle.machine_moves.specs.Told.{is_heard}
use Rattle.machine_steps.specs.declared.entry.Entry.{Entry}
use Rattle.machine_steps.specs.declared.entry.Entry.TheVariants as entries
use Rattle.machine_steps.specs.declared.reply.Reply.{Reply}
use Rattle.sim_steps.specs.Agreeing.{taken_text}
use Rattle.sim_steps.specs.Deeds.Deed.{Enters as EntersAtBench}
use Rattle.serve_steps.specs.Deeds.{Past, is_asked, is_others}
use Rattle.serve_steps.specs.Laws.{entered}
use Rattle.serve_steps.specs.Texts.{Ask, AreEntriesOf, IsEntryOf}
use Rattle.serve_steps.specs.Texts.Ask.{Renews}
use Rattle.serve_channels.specs.declared.connection.Connection.{Connection}
use Rattle.serve_channels.specs.declared.server.Server.{Server}
use Rattle.serve_channels.specs.Controlling.{Answers}
use Rattle.serve_channels.specs.Keeping.{Goes}
use Rattle.serve_channels.specs.Servers.{IsKnown, IsSame, home}
use Rattle.serve_channels.specs.Serving.{ServingLaws}
use Rattle.serve_channels.proofs.Alike.{is_about}
use Rattle.serve_channels.proofs.Entering.{at_desk, begins, is_over_now}
use Rattle.serve_channels.proofs.Entries.{entry_jobs, goes_about_none, unheard}
use Rattle.serve_channels.proofs.Others.{lawful}
use Rattle.serve_channels.proofs.Stretching.{goes_then, went_nowhere}

-- the board does nothing meanwhile
abbrev pub AnswersBy : List Ask → Server → Server → Type 0
AnswersBy asks old new = (log : List Act) → Goes (Answers asks) old log new log

entries_then : (xs ys : List Ask) (es fs : List Entry) → AreEntriesOf xs es → AreEntriesOf ys fs → AreEntriesOf (xs ++ ys) (es ++ fs)
entries_then [] ys [] fs h k = k
entries_then [] ys (e ∷ es) fs h k = absurd h
entries_then (a ∷ xs) ys [] fs h k = absurd h
entries_then (a ∷ xs) ys (e ∷ es) fs h k = (h.0, entries_then xs ys es fs h.1 k)

pub answers_none : (s : Server) → AnswersBy [] s s
answers_none s log g before past kept pre = went_nowhere g before (Answers [] past) past log s tt kept

pub answers_then : (xs ys : List Ask) (a b c : Server) → c.connections ≡ b.connections → AnswersBy xs a b → AnswersBy ys b c → AnswersBy (xs ++ ys) a c
answers_then xs ys a b c same h k log =
    goes_then (λ (past : Past). Unit {0}) (Answers xs) (Answers ys) (Answers (xs ++ ys)) a b c log log log
    (λ past ours theirs first more x y. entries_then xs ys ours theirs x y)
    (λ n known. subst (λ (ks : List Connection). IsKnown n ks) (same_items b c same) known) (h log) (k log)
  where
    same_items : (s t : Server) → t.connections ≡ s.connections → s.connections.items ≡ t.connections.items
    same_items s t e = cc

-- ---- one entry

-- one that is asked for, and is about no connection
pub record IsOrder (e : Entry) : Type 0 where
  pub asked : is_asked e ≡ true
  pub own : is_others e ≡ false
  pub unheard : is_heard e ≡ false
  pub about : (c : ℕ) → is_about c e ≡ false

-- nothing of the report is taken by one that is asked for
unread : (e : Entry) (r : Reply) → is_asked e ≡ true → taken_text (EntersAtBench e r) ≡ []
unread entries.TakeReport r asked = absurd (cc)
unread e r asked = refl

module _ (laws : ServingLaws) (a : Server) (d : DeskView) (law : DeskLaw a.desk) where
  abbrev b : Server
  b = at_desk a d

  pub answered : (ask : Ask) (entry : Entry) → Asked entry a.desk d → IsOrder entry → IsEntryOf ask entry → AnswersBy (ask ∷ []) a b
  answered ask entry h is of log g before past kept pre =
      let enters = h.asks.enters in
      let same : IsSame a b = same_by home a b refl enters.footing in
      let others = entered enters.others [] in
      is_over_now (Answers (ask ∷ []) past) (goes_about_none laws (begins kept (lawful law)) b enters same
      (unheard a b enters None (others ++ past) is.own is.unheard refl (rw is.asked (had_memory h.reply h.asks.memory))) (unread entry h.reply is.asked) refl is.about)
      (rw is.asked (of, tt)) (entry_jobs a b enters laws (lawful law) same is.unheard kept.jobs)

  pub renewed : (accepted : Bool) (text : List ℕ) → RenewsAtDesk accepted text a.desk d → AnswersBy (Renews text ∷ []) a b
  renewed true text h =
      answered (Renews text) (entries.NewPolicy h.policy) h.asked (record { asked = refl; own = refl; unheard = refl; about = λ c. refl })
      (inl (h.policy, h.is_text, refl))
  renewed false text h =
      answered (Renews text) (refusal h.line h.column h.kind) h.asked (record { asked = refl; own = refl; unheard = refl; about = λ c. refl })
      (inr (h.line, h.column, h.kind, h.refused, refl))
