-- What was done to deliver to one connection.
use Rattle.std.proofs.Common.{◌≡◌, ◌≢◌, ℕ, ◌==◌, Bool, true, false, cond, not, ◌&&◌, ◌||◌, List, [], ◌∷◌, ◌++◌, None, set, append-nil, append_assoc, eq-eqb, refl, sym, ap, ◌∙◌, subst, inl, inr}
use Rattle.std.proofs.Math.Bool.{or-true}
use Rattle.std.specs.Prelude.{Some, Ok}
use Rattle.std.specs.List.{list_any, slice_get}
use Rattle.std.specs.Option.{option_or}
use Rattle.std.proofs.lemmas.Bool.{ne_eqb}
use Rattle.std.proofs.lemmas.List.{append_cancel_left}
use Rattle.std.proofs.lemmas.Option.{same_Some}
use Rattle.maple_io.specs.declared.act.Act.{Act}
use Rattle.maple_io.specs.declared.act.Act.TheVariants as acts
use Rattle.maple_io.specs.declared.board.Sent.TheVariants as sends
use Rattle.maple_io.specs.Boards.{BoardView, sent}
use Rattle.board_lines.specs.declared.sending.Reach.{Reach}
use Rattle.board_lines.specs.declared.sending.Reach.TheVariants as reach
use Rattle.board_lines.specs.Deliveries.{SendsAll, is_failed_reach}
use Rattle.board_lines.specs.Queues.{QueueView}
use Rattle.machine_steps.specs.declared.entry.Entry.{Entry}
use Rattle.machine_steps.specs.declared.entry.Entry.TheVariants as entries
use Rattle.machine_steps.specs.Histories.{Turn}
use Rattle.machine_desk.specs.Hearing.{is_live}
use Rattle.machine_desk.specs.declared.inbound.Inbound.{Inbound}
use Rattle.machine_desk.proofs.Tended.{ahead, meanwhile_ahead}
use Rattle.core_machine.proofs.Hearing.{set_there}
use Rattle.serve_steps.specs.Deeds.{Deed, Past, last_answer, takes_out}
use Rattle.serve_steps.specs.Deeds.Deed.{Enters, Does}
use Rattle.serve_steps.specs.Laws.{entered}
use Rattle.serve_steps.specs.Parts.{Given, ends_due, entry_if}
use Rattle.serve_steps.proofs.Entered.{AreOthers}
use Rattle.serve_channels.specs.declared.connection.Connection.{Connection}
use Rattle.serve_channels.specs.declared.server.Server.{Server}
use Rattle.serve_channels.specs.Delivering.{IsSentOut, IsServed, Leaves, SendsBy, SendsOut, ServesAt, TakesOut}
use Rattle.serve_channels.specs.Keeping.{Goes, Went}
use Rattle.serve_channels.specs.Servers.{IsSame, WorksAlone, number_of}
use Rattle.serve_channels.specs.Serving.{ServingLaws}
use Rattle.serve_channels.specs.Stretches.{IsAside}
use Rattle.serve_channels.proofs.Acts.{did, did_last}
use Rattle.serve_channels.proofs.Alike.{aside_turn, spares_another}
use Rattle.serve_channels.proofs.Entering.{IsUnderWay, is_over_now}
use Rattle.serve_channels.proofs.Leaving.{goes_gone, gone_jobs, gone_turn}
use Rattle.serve_channels.proofs.Others.{IsLawful, meanwhile_others, others_aside}
use Rattle.serve_channels.proofs.Sending.{AreGood, Requeues, aside_good, aside_one, goes_failed, goes_good, send_to}
use Rattle.serve_channels.proofs.Stretching.{aside_nothing, went_nowhere}
use Rattle.serve_channels.proofs.TakenOut.{ServesSoFar, serves_taken, with_more}
use Rattle.serve_channels.proofs.Sorted.{apart}

-- ---- what was done stays done

any_more : (f : Deed → Bool) (d : Deed) (past : Past) → list_any f past ≡ true → list_any f (d ∷ past) ≡ true
any_more f d past h = ap (λ (b : Bool). f d || b) h ∙ or-true (f d)

any_did : (f : Deed → Bool) (more : List Act) (past : Past) → list_any f past ≡ true → list_any f (did more past) ≡ true
any_did f [] past h = h
any_did f (a ∷ more) past h = any_did f more (Does a ∷ past) (any_more f (Does a) past h)

any_entered : (f : Deed → Bool) (ts : List Turn) (past : Past) → list_any f past ≡ true → list_any f (entered ts past) ≡ true
any_entered f [] past h = h
any_entered f (t ∷ ts) past h = any_entered f ts (Enters t ∷ past) (any_more f (Enters t) past h)

-- the last send is the last that was answered
not_yet_last : (c n : ℕ) (more ahead : List Act) (done : Past) → n ≡ c → more ≡ ahead ++ acts.Takes n [] sends.NotYet ∷ [] → last_answer c (did more done) ≡ Some sends.NotYet
not_yet_last c n more ahead done same e =
    ap (λ (m : List Act). last_answer c (did m done)) e ∙ ap (last_answer c) (did_last ahead (acts.Takes n [] sends.NotYet) done)
    ∙ ap (λ (b : Bool). option_or (cond b (Some sends.NotYet) None) (last_answer c (did ahead done))) (eq-eqb n c same)

-- ---- behind what was taken out

module _ {g : Given} {before : List Act} {past done : Past} (from to : BoardView) {at : ℕ} {k : Connection} {l : QueueView} {b d : Server}
    (so_far : ServesSoFar at k g before past done from.log b) (h : Requeues at k l b d) where
  there_now : slice_get d.connections.items at ≡ Some (record k { queue = l })
  there_now = ap (λ (ks : List Connection). slice_get ks at) h.set_is ∙ set_there b.connections.items at k (record k { queue = l }) h.there

  jobs_now : WorksAlone d → d.desk.now.jobs ≡ []
  jobs_now = subst (λ (x : Server). WorksAlone x → x.desk.now.jobs ≡ []) (sym h.rest) so_far.jobs

  number_is : k.queue.number ≡ number_of k
  number_is = (so_far.under_way.kept.agree at k h.there).queue

  -- no send failed now
  module _ (more : List Act) (log : to.log ≡ from.log ++ more) (own_is : sent (number_of k) to.log ++ l.rest ≡ sent (number_of k) from.log ++ k.queue.rest)
      (number : l.number ≡ k.queue.number) (same : l.failed ≡ k.queue.failed) (good : AreGood (number_of k) more)
      (sent_out : IsSentOut (record k { queue = l }) (did more done)) where
    under_way : IsUnderWay g before past None [] (did more done) to.log d
    under_way = goes_good so_far.under_way h to.log more log own_is number same good

    another : (n : ℕ) (x : Connection) → n ≢ at → slice_get d.connections.items n ≡ Some x → number_of x ≢ number_of k
    another n x other is = apart d.connections.items under_way.kept.sorted at n (record k { queue = l }) x there_now is other

    went_good : Went g before (ServesAt at d past) past to.log d
    went_good =
        is_over_now (ServesAt at d past) under_way (record {
          none = refl;
          served = λ x is.
              subst (λ (y : Connection). IsServed y (did more done)) (same_Some (record k { queue = l }) x (sym there_now ∙ is))
              (record { taken = λ uncut. any_did (takes_out (number_of k)) more done so_far.taken; sent = sent_out });
          others = λ n x other is. aside_good (number_of k) (number_of x) more done good (another n x other is) (so_far.aside (number_of x) (another n x other is));
        })
        jobs_now

  own_at : sent k.queue.number to.log ++ l.rest ≡ sent k.queue.number from.log ++ k.queue.rest → sent (number_of k) to.log ++ l.rest ≡ sent (number_of k) from.log ++ k.queue.rest
  own_at own = subst (λ (n : ℕ). sent n to.log ++ l.rest ≡ sent n from.log ++ k.queue.rest) number_is own

  good_at : (more : List Act) → AreGood k.queue.number more → AreGood (number_of k) more
  good_at more good = subst (λ (n : ℕ). AreGood n more) number_is good

  reached : (r : Reach) → k.queue.failed ≡ false → SendsAll (Ok r) k.queue l from to → is_failed_reach r ≡ false → Went g before (ServesAt at d past) past to.log d
  reached reach.All unfailed s fine =
      went_good s.answers.0 s.answers.1 (own_at s.own) s.number (s.failed ∙ sym unfailed) (good_at s.answers.0 s.answers.2) (inl s.so.0)
  reached reach.NotYet unfailed s fine =
      let last = s.so.1 in
      let same : s.answers.0 ≡ last.0 ++ acts.Takes l.number [] sends.NotYet ∷ [] =
      append_cancel_left from.log s.answers.0 (last.0 ++ acts.Takes l.number [] sends.NotYet ∷ [])
      (sym s.answers.1 ∙ last.1 ∙ append_assoc from.log last.0 (acts.Takes l.number [] sends.NotYet ∷ [])) in
      went_good s.answers.0 s.answers.1 (own_at s.own) s.number (s.failed ∙ sym unfailed) (good_at s.answers.0 s.answers.2)
      (inr (inr (inr (not_yet_last (number_of k) l.number s.answers.0 last.0 done (s.number ∙ number_is) same))))
  reached reach.Failed unfailed s fine = absurd (cc fine)

  -- all was sent that could be
  pub went_sent : SendsBy false k.queue l from to → Went g before (ServesAt at d past) past to.log d
  went_sent (inl w) =
      went_good [] (w.3 ∙ sym (append-nil from.log))
      (ap (λ (x : List Act). sent (number_of k) x ++ l.rest) w.3 ∙ ap (λ (q : QueueView). sent (number_of k) from.log ++ q.rest) w.2)
      (ap (λ (q : QueueView). q.number) w.2) (ap (λ (q : QueueView). q.failed) w.2) refl (inr (inl (ap (λ (q : QueueView). q.failed) w.2 ∙ w.0)))
  went_sent (inr w) = reached w.1 w.0 w.3 (sym w.2)

  -- the last send failed, and so the session ends
  module _ (s : SendsAll (Ok reach.Failed) k.queue l from to) (laws : ServingLaws) (e : Server) (same : IsSame d e) (leaves : Leaves at true d e) where
    abbrev mid : List Act
    mid = s.answers.0

    abbrev more : List Act
    more = s.answers.1.0

    abbrev failing : Act
    failing = acts.Takes (number_of k) [] sends.Failed

    log_is : to.log ≡ from.log ++ (more ++ failing ∷ [])
    log_is =
        s.answers.2 ∙ ap (λ (x : List Act). x ++ acts.Takes k.queue.number [] sends.Failed ∷ []) s.answers.1.1
        ∙ append_assoc from.log more (acts.Takes k.queue.number [] sends.Failed ∷ [])
        ∙ ap (λ (n : ℕ). from.log ++ (more ++ acts.Takes n [] sends.Failed ∷ [])) number_is

    good : AreGood (number_of k) more
    good = good_at more s.answers.1.2

    abbrev deeds : Past
    deeds = Does failing ∷ did more done

    due_now : IsUnderWay g before past (Some (number_of k)) [] deeds to.log d
    due_now = goes_failed so_far.under_way h to.log more log_is (own_at s.own) s.number good s.failed

    -- it is the same connection
    is_left : leaves.connection ≡ record k { queue = l }
    is_left = sym (same_Some (record k { queue = l }) leaves.connection (sym there_now ∙ leaves.there))

    own : (number_of leaves.connection == number_of k) ≡ true
    own = eq-eqb (number_of leaves.connection) (number_of k) (ap number_of is_left)

    abbrev told : Entry
    told = entries.Gone (number_of leaves.connection) true

    abbrev behind : Past
    behind = Enters (gone_turn leaves) ∷ entered leaves.does.enters.others deeds

    not_own : entry_if (true && not (ends_due (Some (number_of k)) told)) told ≡ []
    not_own = ap (λ (x : Bool). entry_if (true && not (x && true)) told) own

    under_way_left : IsUnderWay g before past None [] behind to.log e
    under_way_left =
        subst (λ (es : List Entry). IsUnderWay g before past None es behind to.log e) not_own
        (goes_gone leaves laws due_now.law same due_now (ap (λ (x : Bool). x && true) own))

    -- the connection behind it
    abbrev left : Connection
    left = record leaves.connection { inbound = leaves.behind; cut = leaves.connection.cut || is_live leaves.connection.inbound.stage }

    there_left : slice_get e.connections.items at ≡ Some left
    there_left = ap (λ (ks : List Connection). slice_get ks at) leaves.all ∙ set_there d.connections.items at leaves.connection left leaves.there

    number_left : number_of left ≡ number_of k
    number_left = ap (λ (i : Inbound). i.connection) leaves.does.stage ∙ ap number_of is_left

    another_left : (n : ℕ) (x : Connection) → n ≢ at → slice_get e.connections.items n ≡ Some x → number_of x ≢ number_of k
    another_left n x other is same = apart e.connections.items under_way_left.kept.sorted at n left x there_left is other (same ∙ sym number_left)

    taken_left : list_any (takes_out (number_of k)) behind ≡ true
    taken_left =
        any_more (takes_out (number_of k)) (Enters (gone_turn leaves)) (entered leaves.does.enters.others deeds)
        (any_entered (takes_out (number_of k)) leaves.does.enters.others deeds
        (any_more (takes_out (number_of k)) (Does failing) (did more done) (any_did (takes_out (number_of k)) more done so_far.taken)))

    are_others : AreOthers leaves.does.enters.others
    are_others = meanwhile_others laws due_now.law (meanwhile_ahead leaves.does.enters)

    aside_left : (c : ℕ) → c ≢ number_of k → IsAside c behind
    aside_left c other =
        aside_turn c (gone_turn leaves) (entered leaves.does.enters.others deeds)
        (spares_another c (gone_turn leaves) (ne_eqb (number_of leaves.connection) c (λ e. other (sym e ∙ ap number_of is_left))))
        (others_aside c leaves.does.enters.others deeds are_others
        (aside_one (number_of k) c failing (did more done) (send_to (number_of k) (number_of k) [] sends.Failed (eq-eqb (number_of k) (number_of k) refl)) other
        (aside_good (number_of k) c more done good other (so_far.aside c other))))

    pub went_left : Went g before (ServesAt at e past) past to.log e
    went_left =
        is_over_now (ServesAt at e past) under_way_left (record {
          none = refl;
          served = λ x is.
              subst (λ (y : Connection). IsServed y behind) (same_Some left x (sym there_left ∙ is)) (record {
                taken = λ uncut. subst (λ (n : ℕ). list_any (takes_out n) behind ≡ true) (sym number_left) taken_left;
                sent = inr (inl (ap (λ (y : Connection). y.queue.failed) is_left ∙ s.failed));
              });
          others = λ n x other is. aside_left (number_of x) (another_left n x other is);
        })
        (gone_jobs leaves laws due_now.law same jobs_now)

  by_reach : (laws : ServingLaws) (e : Server) → IsSame d e → Leaves at true d e → (r : Reach) → true ≡ is_failed_reach r → SendsAll (Ok r) k.queue l from to
      → Went g before (ServesAt at e past) past to.log e
  by_reach laws e same leaves reach.Failed failed s = went_left s laws e same leaves
  by_reach laws e same leaves reach.All failed s = absurd (cc failed)
  by_reach laws e same leaves reach.NotYet failed s = absurd (cc failed)

  pub went_failed : (laws : ServingLaws) (e : Server) → IsSame d e → Leaves at true d e → SendsBy true k.queue l from to → Went g before (ServesAt at e past) past to.log e
  went_failed laws e same leaves (inl w) = absurd (cc w.1)
  went_failed laws e same leaves (inr w) = by_reach laws e same leaves w.1 w.2 w.3

-- ---- the calls

requeues : {at : ℕ} {failed : Bool} {b d : Server} {from to : BoardView} (k : Connection) → slice_get b.connections.items at ≡ Some k → (h : SendsOut at failed b d from to)
    → Requeues at k h.queue b d × SendsBy failed k.queue h.queue from to
requeues {at} {failed} {b} {d} {from} {to} k there h =
    let same : h.connection ≡ k = same_Some h.connection k (sym h.there ∙ there) in (
      record {
        there = there;
        rest = h.rest;
        set_is = h.connections ∙ ap (λ (x : Connection). set b.connections.items at (record x { queue = h.queue })) same;
      },
      subst (λ (x : Connection). SendsBy failed x.queue h.queue from to) same h.how,
    )

-- nothing is done where the link is over
pub goes_cut : (at : ℕ) (s : Server) (log : List Act) (k : Connection) → slice_get s.connections.items at ≡ Some k → k.cut ≡ true → Goes (ServesAt at s) s log s log
goes_cut at s log k there cut g before past kept nothing =
    went_nowhere g before (ServesAt at s past) past log s (record {
      none = refl;
      served = λ x is.
          (let is_cut : x.cut ≡ true = ap (λ (y : Connection). y.cut) (same_Some x k (sym is ∙ there)) ∙ cut in
          record { taken = λ uncut. absurd (cc (sym is_cut ∙ uncut)); sent = inr (inr (inl is_cut)) });
      others = λ n x other is. aside_nothing (number_of x);
    })
    kept

pub goes_sent : ServingLaws → {at : ℕ} {a b d : Server} {from to : BoardView} → IsLawful a.desk → TakesOut at a b → SendsOut at false b d from to
    → Goes (ServesAt at d) a from.log d to.log
goes_sent laws {from = from} {to = to} law takes sends g before past kept nothing =
    let so_far = serves_taken laws kept law takes in
    let r = requeues (with_more takes.connection takes.bytes) so_far.there sends in
    went_sent from to so_far r.0 r.1

pub goes_left : ServingLaws → {at : ℕ} {a b d e : Server} {from to : BoardView} → IsLawful a.desk → TakesOut at a b → SendsOut at true b d from to → IsSame d e → Leaves at true d e
    → Goes (ServesAt at e) a from.log e to.log
goes_left laws {e = e} {from = from} {to = to} law takes sends same leaves g before past kept nothing =
    let so_far = serves_taken laws kept law takes in
    let r = requeues (with_more takes.connection takes.bytes) so_far.there sends in
    went_failed from to so_far r.0 laws e same leaves r.1
