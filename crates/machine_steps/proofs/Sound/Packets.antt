-- What a PACKET_IN leaves sound.
use Rattle.std.proofs.Common.{◌≡◌, ◌≢◌, ℕ, ◌+◌, ◌<◌, ◌≤◌, ◌^◌, Bool, true, false, List, [], length, refl, sym, ap, ◌∙◌, subst, inl, inr, le_refl, arith}
use Rattle.std.specs.Prelude.{◌==◌, ◌&&◌, nat_lt, if◌then◌else◌, Some, Ok}
use Rattle.std.proofs.lemmas.Bool.{cond_both, eq-eqb, ltb-false}
use Rattle.std.proofs.lemmas.List.{length_push}
use Rattle.maple_base.specs.declared.key.Key.{Key}
use Rattle.packet_key.specs.Frames.{key_of}
use Rattle.env_cells.specs.declared.updates.Update.{Update}
use Rattle.env_cells.specs.declared.updates.Update.TheVariants.{Host}
use Rattle.report_text.specs.declared.line.Line.TheVariants as lines
use Rattle.maple_base.specs.OpenFlow.{no_buffer}
use Rattle.machine_steps.specs.declared.job.Job.{Job}
use Rattle.machine_steps.specs.declared.reply.Reply.{Reply}
use Rattle.machine_steps.specs.Machine.{Session, State, most_jobs, most_sent_back, is_live, session_at, state_number, tells}
use Rattle.machine_steps.specs.Steps.{switch_of, updated, gone, entry_of, teaches, TeachesBy, is_too_big, job_of, opens_job, HearsPacket}
use Rattle.machine_steps.specs.Sound.{IsInOrder, IsServed, IsSound}
use Rattle.machine_steps.proofs.Sound.Zipped.{pairs_to, pairs_from, pairs_push, all_weaker, all_push, zip_refl}
use Rattle.machine_steps.proofs.Sound.Following.{Serves, serves_same, serves_still}
use Rattle.machine_steps.proofs.Sound.Keys.{AreBytes, key_valid}
use Rattle.machine_steps.proofs.Sound.Kept.{LowerLaws}
use Rattle.machine_steps.proofs.Sound.Reached.{updated_sound}
use Rattle.machine_steps.proofs.Sound.Replaced.{IsBeside, learned_beside, order_beside, sound_told}

-- ---- a job that opens

module _ (m : State) (j : Job) where
  abbrev busier : State
  busier = opens_job j m

  busier_beside : IsBeside m busier
  busier_beside = record { settings = refl; policy = refl; scene = refl; learned = refl; opened = λ c o. o; count = le_refl m.trace_count; job_count = omega arith }

  served_still : (i : Job) → IsServed m i → IsServed busier i
  served_still i v = serves_still m busier busier_beside.job_count i (zip_refl (Serves i.connection) (serves_same i.connection) m.sessions) v

  -- its number is above all others
  pub sound_job : IsSound m → j.number ≡ m.job_count + 1 → IsServed busier j → length m.jobs < most_jobs → IsSound busier
  sound_job h next served few = record {
    ranges = h.ranges;
    learned = learned_beside m busier busier_beside h.learned;
    lists = h.lists;
    switches = h.switches;
    links = h.links;
    sessions = all_weaker (IsInOrder m) (IsInOrder busier) (order_beside m busier busier_beside) m.sessions h.sessions;
    others = h.others;
    few_sessions = h.few_sessions;
    jobs = all_push (IsServed busier) m.jobs j (all_weaker (IsServed m) (IsServed busier) served_still m.jobs h.jobs) served;
    numbers = pairs_from (λ (i k : Job). i.number ≢ k.number) busier.jobs
        (pairs_push (λ (i k : Job). i.number ≢ k.number) m.jobs j (pairs_to (λ (i k : Job). i.number ≢ k.number) m.jobs h.numbers)
        (all_weaker (IsServed m) (λ i. i.number ≢ j.number) (λ i v e. let a = v.number in omega (arith, a, e, next)) m.jobs h.jobs));
    few_jobs = let e = length_push m.jobs j in omega (arith, e, few);
  }

-- ---- a packet of a live session

module _ (laws : LowerLaws) (s : Session) (buffer in_port : ℕ) (frame : List ℕ) (old : State) (h : IsSound old) where
  -- what it teaches
  taught_sound : (b : Bool) (u : Update) (taught : State) → TeachesBy b u old taught → IsSound taught
  taught_sound true u taught (inl t) = updated_sound laws u old taught h t.0 t.1
  taught_sound true u taught (inr t) = subst IsSound (sym t.1) h
  taught_sound false u taught e = subst IsSound (sym e) h

  -- a state in which it waits
  abbrev waiting : Key → State → State
  waiting k m = opens_job (job_of s buffer frame k m) m

  -- a job that is sound ahead of what the packet teaches is so behind it
  waiting_sound : (k : Key) (b : Bool) (u : Update) (taught : State) → TeachesBy b u old taught → IsSound (waiting k old) → IsSound (waiting k taught)
  waiting_sound k true u taught (inl t) w =
      let after = tells (lines.State (state_number (updated u old)) (gone old (updated u old))) (record (updated u old) { sessions = t.1.sessions }) in
      subst (λ x. IsSound (waiting k x)) (sym t.1.now_is) (updated_sound laws u (waiting k old) (waiting k after) w t.0 (record { sessions = t.1.sessions; aims = t.1.aims; now_is = refl }))
  waiting_sound k true u taught (inr t) w = subst (λ x. IsSound (waiting k x)) (sym t.1) w
  waiting_sound k false u taught e w = subst (λ x. IsSound (waiting k x)) (sym e) w

  -- its bytes are kept where the switch keeps none, and then they aren't too many
  kept_few : is_too_big buffer frame ≡ false → buffer ≡ no_buffer → length (if buffer == no_buffer then frame else []) ≤ most_sent_back
  kept_few within e =
      let short : nat_lt most_sent_back (length frame) ≡ false = sym (ap (λ b. b && nat_lt most_sent_back (length frame)) (eq-eqb buffer no_buffer e)) ∙ within in
      cond_both (buffer == no_buffer) frame [] (λ kept. length kept ≤ most_sent_back) (λ same. ltb-false most_sent_back (length frame) short) (λ other. omega arith)

  module _ (found : session_at s.connection old ≡ Some s) (live : is_live s ≡ true) (small : in_port < 2 ^ 16) (are : AreBytes frame) where
    job_served : (k : Key) → key_of in_port frame ≡ Ok k → is_too_big buffer frame ≡ false → IsServed (waiting k old) (job_of s buffer frame k old)
    job_served k good within =
        record { session = s; there = found; live = live; switch = refl; valid = key_valid in_port frame k small are good; number = le_refl (old.job_count + 1); frame = kept_few within }

    pub sound_packet : (reply : Reply) (new : State) → HearsPacket s buffer in_port frame old reply new → IsSound new
    sound_packet reply new (inl (fault, bad, r, e)) = subst IsSound (sym e) (sound_told old _ h)
    sound_packet reply new (inr (inl (k, good, big, r, e))) = subst IsSound (sym e) (sound_told old _ h)
    sound_packet reply new (inr (inr (inl (k, taught, good, within, t, full, r, e)))) =
        subst IsSound (sym e) (sound_told taught _ (taught_sound (teaches (switch_of s) k old) (Host k.dl_src (entry_of (switch_of s) k)) taught t))
    sound_packet reply new (inr (inr (inr (k, taught, good, within, t, few, r, e)))) =
        subst IsSound (sym e)
        (waiting_sound k (teaches (switch_of s) k old) (Host k.dl_src (entry_of (switch_of s) k)) taught t
        (sound_job old (job_of s buffer frame k old) h refl (job_served k good within) few))
