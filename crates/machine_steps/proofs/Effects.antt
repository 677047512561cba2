-- Each entry has one of the effects.
use Rattle.std.proofs.Common.{◌≡◌, ℕ, true, false, List, [], append-nil, refl, sym, ap, ◌∙◌, inl, inr, ⊎_elim}
use Rattle.std.specs.Prelude.{Some}
use Rattle.std.proofs.lemmas.List.{append_assoc}
use Rattle.maple_base.specs.declared.cells.Cell.{Cell}
use Rattle.maple_base.specs.declared.cells.Port.{Port}
use Rattle.maple_base.specs.declared.cells.Value.{Value}
use Rattle.maple_base.specs.declared.decision.Outcome.{Outcome}
use Rattle.maple_base.specs.declared.decision.Outcome.TheVariants.{Decided, Spent as SpentRun}
use Rattle.maple_base.specs.declared.items.Item.{Item}
use Rattle.of10_codec.specs.declared.message.Message.{Message}
use Rattle.env_cells.specs.declared.updates.Update.{Update}
use Rattle.env_cells.specs.declared.updates.Update.TheVariants.{Port as PortUpdate}
use Rattle.switch_session.specs.declared.told.End.{End}
use Rattle.switch_session.specs.declared.told.Heard.{Heard}
use Rattle.switch_session.specs.declared.told.Heard.TheVariants as heard
use Rattle.switch_session.specs.Sessions.{ended}
use Rattle.trace_record.specs.Runs.{Recorded}
use Rattle.machine_steps.specs.declared.entry.Entry.{Entry}
use Rattle.machine_steps.specs.declared.entry.Entry.TheVariants as entries
use Rattle.machine_steps.specs.declared.entry.Input.TheVariants.{Message as Whole, Bad}
use Rattle.machine_steps.specs.declared.reply.Reply.{Reply}
use Rattle.machine_steps.specs.declared.reply.Reply.TheVariants.{NoMemory, Policy as PolicyLent}
use Rattle.machine_steps.specs.Effects.{telling, tells_end, IsPlain, job_in, may_advance, IsEndOf, only_moves, Hearing, Running, shuts, Effect}
use Rattle.machine_steps.specs.Effects.Effect.{RunsOut, Rests, Misses, Outdates, Tells, Reports, OpensSession, TurnsAway, Empties, Moves, Quiets, Ends, Advances, Renews, Accepts, Overflows, Waits, Spends, AnswersJob}
use Rattle.machine_steps.specs.Machine.{Session, Job, State, with_session}
use Rattle.machine_steps.specs.Steps.{switch_of, Updates, Opens, EndsSession, TakesMessages, HearsFeatures, HearsPacket, HearsOf, HearsMessage, Concludes, Commits, Decides, LendsPolicy, Steps}

module _ (old : State) (entry : Entry) (reply : Reply) (new : State) where
  abbrev Does : Type 0
  Does = Effect old entry reply new

  plain : (r : Reply) → IsPlain r → reply ≡ r → IsPlain reply
  plain r p e = (ap telling e ∙ p.0, ap tells_end e ∙ p.1)

  updates : (u : Update) → may_advance entry ≡ true → Updates u old reply new → Does
  updates u may (inl (free, r, a)) = Advances u may free r a
  updates u may (inr (inl (kind, refused, r, e))) = Tells (plain _ (refl, refl) r) _ e
  updates u may (inr (inr l)) = RunsOut l

  ends : (c : ℕ) (end : End) → IsEndOf c entry → EndsSession c end old reply new → Does
  ends c end is (inl (found, (r, e))) = Rests (plain _ (refl, refl) r) e
  ends c end is (inr (s, found, r, e)) = Ends (ended s) end (inl (c, s, is, found, refl)) r _ e

  -- ---- messages

  module _ (t : Session) where
    stays : (h : Heard) → Hearing old entry h t → only_moves h ≡ true → IsPlain reply → new ≡ with_session t old → Does
    stays h from still p e = Moves h t from still p [] (e ∙ ap (λ ls. record (with_session t old) { lines = ls }) (sym (append-nil old.lines)))

    features : (dpid : ℕ) (ports : List Port) → Hearing old entry (heard.Features dpid ports) t → HearsFeatures t dpid ports old reply new → Does
    features dpid ports from (inl (served, r, e)) = Ends (ended t) _ (inr (inl (t, dpid, ports, from, refl))) r _ e
    features dpid ports from (inr (inl (unserved, full, r, e))) = Ends (ended t) _ (inr (inl (t, dpid, ports, from, refl))) r _ e
    features dpid ports from (inr (inr (unserved, free, r, j))) = Accepts t dpid ports from r j

    packet : (buffer in_port : ℕ) (frame : List ℕ) → Hearing old entry (heard.PacketIn buffer in_port frame) t → HearsPacket t buffer in_port frame old reply new → Does
    packet buffer in_port frame from (inl (fault, is, r, e)) = Tells (plain _ (refl, refl) r) _ e
    packet buffer in_port frame from (inr (inl (k, is, big, r, e))) = Tells (plain _ (refl, refl) r) _ e
    packet buffer in_port frame from (inr (inr (inl (k, taught, is, small, h, many, r, e)))) =
        Overflows t buffer frame k taught (record { in_port = in_port; hearing = from; key = is; teaches = h }) many r e
    packet buffer in_port frame from (inr (inr (inr (k, taught, is, small, h, few, r, e)))) =
        Waits t buffer frame k taught (record { in_port = in_port; hearing = from; key = is; teaches = h }) few r e

    by_heard : (m : Message) (h : Heard) → may_advance entry ≡ true → Hearing old entry h t → HearsOf m t h old reply new → Does
    by_heard m heard.Passed may from (r, e) = stays heard.Passed from refl (plain _ (refl, refl) r) e
    by_heard m (heard.Features dpid ports) may from d = features dpid ports from d
    by_heard m (heard.PacketIn buffer in_port frame) may from d = packet buffer in_port frame from d
    by_heard m (heard.Port port up) may from d = updates (PortUpdate (switch_of t) port up) may d
    by_heard m (heard.Acknowledged true) may from (r, e) = Moves (heard.Acknowledged true) t from refl (plain _ (refl, refl) r) _ e
    by_heard m (heard.Acknowledged false) may from (r, e) = stays (heard.Acknowledged false) from refl (plain _ (refl, refl) r) e
    by_heard m (heard.Refused kind code true) may from (r, e) = Quiets kind code t from (plain _ (refl, refl) r) e
    by_heard m (heard.Refused kind code false) may from (r, e) = Moves (heard.Refused kind code false) t from refl (plain _ (refl, refl) r) _ e
    by_heard m (heard.Ended end) may from (r, e) =
        Ends t end (inr (inr (end, from))) r _ (e ∙ ap (λ ls. record (shuts t old) { lines = ls }) (append_assoc old.lines _ _))

  message : (c : ℕ) (m : Message) → entry ≡ entries.Heard c (Whole m) → HearsMessage c m old reply new → Does
  message c m is h =
      let from : Hearing old entry h.heard h.behind = record { connection = c; message = m; is = is; session = h.session; there = h.there; hears = h.hears } in
      ⊎_elim (λ d. by_heard h.behind m h.heard (ap may_advance is) from d) (λ l. RunsOut l.1) h.does

  -- ---- runs

  concludes : (number : ℕ) → job_in entry ≡ Some number → (j : Job) → Running old entry j → (items : List Item) (cells : List (Cell × Value)) (o : Outcome)
      → Concludes j items cells o old reply new → Does
  concludes number is j run items cells SpentRun (r, e) = Spends j run r e
  concludes number is j run items cells (Decided d) a = AnswersJob j items cells d run a

  commits : (number : ℕ) (run : Recorded) → job_in entry ≡ Some number → Commits number run old reply new → Does
  commits number run is (inl (none_such, r, e)) = Misses number is r e
  commits number run is (inr (inl (j, its, other, r, e))) = Outdates number is _ r _ e
  commits number run is (inr (inr (inl (j, c, recorded, current, its, n, stale, r, e)))) = Outdates number is _ r _ e
  commits number run is (inr (inr (inr (inl (j, its, n, fresh, a))))) =
      concludes number is j (record { number = number; is = is; there = its.there; of_number = its.number }) _ _ run.outcome a
  commits number run is (inr (inr (inr (inr l)))) = RunsOut l

  decides : (number : ℕ) → job_in entry ≡ Some number → Decides number old reply new → Does
  decides number is (inl (none_such, r, e)) = Misses number is r e
  decides number is (inr (inl (j, its, a))) = concludes number is j (record { number = number; is = is; there = its.there; of_number = its.number }) _ _ _ a
  decides number is (inr (inr l)) = RunsOut l

  lends : (r : Reply) → reply ≡ r → LendsPolicy old r new → Does
  lends (PolicyLent number lent) r e = Rests (plain _ (refl, refl) r) e.2
  lends NoMemory r e = RunsOut (r, e)
  lends other r e = absurd e

module _ (old : State) (reply : Reply) (new : State) where
  opens : (c : ℕ) → Opens c old reply new → Effect old (entries.Open c) reply new
  opens c (inl (was, (r, e))) = Rests (plain old (entries.Open c) reply new _ (refl, refl) r) e
  opens c (inr (inl (fresh, full, r, e))) = TurnsAway c refl fresh full r e
  opens c (inr (inr (inl (fresh, few, r, e)))) = OpensSession c refl fresh few r e
  opens c (inr (inr (inr l))) = RunsOut l

  takes : (c : ℕ) → TakesMessages c old reply new → Effect old (entries.TakeOut c) reply new
  takes c (inl (found, r, e)) = Rests (plain old (entries.TakeOut c) reply new _ (refl, refl) r) e
  takes c (inr (inl (s, t, bytes, found, out, r, e))) = Empties c s t bytes refl found out r e
  takes c (inr (inr l)) = RunsOut l

  rests : (entry : Entry) (r : Reply) → IsPlain r → reply ≡ r → new ≡ old → Effect old entry reply new
  rests entry r p is e = Rests (plain old entry reply new r p is) e

  pub effect_of : (entry : Entry) → Steps old entry reply new → Effect old entry reply new
  effect_of (entries.Open c) d = opens c d
  effect_of (entries.Heard c (Bad place bad)) d = ends old (entries.Heard c (Bad place bad)) reply new c _ refl d
  effect_of (entries.Heard c (Whole m)) (inl (found, (r, e))) = rests (entries.Heard c (Whole m)) _ (refl, refl) r e
  effect_of (entries.Heard c (Whole m)) (inr (inl h)) = message old (entries.Heard c (Whole m)) reply new c m refl h
  effect_of (entries.Heard c (Whole m)) (inr (inr h)) = RunsOut h.lacks
  effect_of (entries.Gone c fault) d = ends old (entries.Gone c fault) reply new c _ refl d
  effect_of (entries.Change u) d = updates old (entries.Change u) reply new u refl d
  effect_of (entries.NewPolicy p) (inl (r, a)) = Renews p refl r a
  effect_of (entries.NewPolicy p) (inr l) = RunsOut l
  effect_of (entries.ReadCell c) (r, e) = rests (entries.ReadCell c) _ (refl, refl) r e
  effect_of entries.ReadPolicy d = lends old entries.ReadPolicy reply new reply refl d
  effect_of (entries.ReadRules switch) (inl (rules, put, r, e)) = Tells (plain old (entries.ReadRules switch) reply new _ (refl, refl) r) _ e
  effect_of (entries.ReadRules switch) (inr l) = RunsOut l
  effect_of entries.OpenJobs (r, e) = rests entries.OpenJobs _ (refl, refl) r e
  effect_of (entries.Commit number run) d = commits old (entries.Commit number run) reply new number run refl d
  effect_of (entries.Decide number) d = decides old (entries.Decide number) reply new number refl d
  effect_of (entries.TakeOut c) d = takes c d
  effect_of entries.TakeReport (inl (r, e)) = Reports refl r e
  effect_of entries.TakeReport (inr l) = RunsOut l
  effect_of (entries.Note note) (inl (r, e)) = Tells (plain old (entries.Note note) reply new _ (refl, refl) r) _ e
  effect_of (entries.Note note) (inr l) = RunsOut l
