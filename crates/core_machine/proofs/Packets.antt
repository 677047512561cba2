-- What a packet teaches, and the job that is opened for it.
use Rattle.std.proofs.Common.{◌≡◌, ℕ, ◌+◌, ◌<◌, Bool, true, false, Option, Some, None, Result, Ok, Err, IfOk, OnOk, List, [], inl, inr, length, refl, sym, ap, ◌∙◌, subst}
use Rattle.std.specs.Prelude.{◌&&◌, ◌==◌, if◌then◌else◌, is_none}
use Rattle.std.proofs.lemmas.Option.{same_Some}
use Rattle.maple_base.specs.declared.key.Key.{Key}
use Rattle.maple_base.specs.declared.no_memory.NoMemory.{NoMemory}
use Rattle.maple_base.specs.declared.update_refused.UpdateRefused.{UpdateRefused}
use Rattle.env_cells.specs.declared.updates.Update.{Update}
use Rattle.env_cells.specs.Refusals.{refusal_of, HasRoomForTables}
use Rattle.maple_base.specs.OpenFlow.{no_buffer}
use Rattle.machine_steps.specs.declared.job.Job.{Job}
use Rattle.machine_steps.specs.declared.reply.Reply.{Reply}
use Rattle.machine_steps.specs.declared.reply.Reply.TheVariants.{Job as JobOpened}
use Rattle.machine_steps.specs.Waiting.{Waiting}
use Rattle.machine_steps.specs.Machine.{Session, State, most_jobs}
use Rattle.machine_steps.specs.Steps.{HearsPacket, Reaches, Teaches, TeachesBy, item_of, is_too_big, opens_job, switch_of, teaches, updated}
use Rattle.packet_key.specs.Frames.{key_of}
use Rattle.core_machine.specs.declared.next.Next.{Next}
use Rattle.core_machine.specs.declared.next.Next.TheVariants as nexts
use Rattle.core_machine.specs.Following.{ReachesThen, follows}
use Rattle.core_machine.specs.Packets.{HearsPacketOf, TakesIn, TeachesThen, lesson_of, next_job, taught_by}

-- ---- what it teaches

-- where nothing is learned it teaches nothing, or that is refused
nothing_by : (b : Bool) (r : Option UpdateRefused) (u : Update) (m : State) → refusal_of m.scene u ≡ r → (if b && is_none r then Some u else None) ≡ None → TeachesBy b u m m
nothing_by true None u m e h = absurd (cc)
nothing_by true (Some x) u m e h = inr (λ n. absurd (cc), refl)
nothing_by false r u m e h = refl

teaches_nothing : (switch : ℕ) (k : Key) (m : State) → lesson_of switch k m ≡ None → Teaches switch k m m
teaches_nothing switch k m h = nothing_by (teaches switch k m) (refusal_of m.scene (taught_by switch k)) (taught_by switch k) m refl h

-- what is learned is what it teaches, and isn't refused
learned_by : (b : Bool) (r : Option UpdateRefused) (u v : Update) → (if b && is_none r then Some u else None) ≡ Some v → (b ≡ true) × (r ≡ None) × (u ≡ v)
learned_by true None u v h = (refl, refl, same_Some u v h)
learned_by true (Some x) u v h = absurd (cc)
learned_by false r u v h = absurd (cc)

module _ (switch : ℕ) (k : Key) (m : State) (u : Update) (h : lesson_of switch k m ≡ Some u) where
  parts : (teaches switch k m ≡ true) × (refusal_of m.scene (taught_by switch k) ≡ None) × (taught_by switch k ≡ u)
  parts = learned_by (teaches switch k m) (refusal_of m.scene (taught_by switch k)) (taught_by switch k) u h

  pub lesson_fits : HasRoomForTables u
  lesson_fits = subst HasRoomForTables parts.2 tt

  pub lesson_taken : (r : UpdateRefused) → refusal_of m.scene u ≡ Some r → ⊥
  lesson_taken r e = let taken = ap (refusal_of m.scene) (sym parts.2) ∙ parts.1 in absurd (cc)

  pub teaches_it : (new : State) → Reaches m (updated u m) new → Teaches switch k m new
  teaches_it new reaches =
      subst (λ (b : Bool). TeachesBy b (taught_by switch k) m new) (sym parts.0) (inl (parts.1, subst (λ (v : Update). Reaches m (updated v m) new) (sym parts.2) reaches))

-- and then something follows
pub follows_nothing : (switch : ℕ) (k : Key) (next : Next) (m new : State) → lesson_of switch k m ≡ None → (r : Result Unit NoMemory) → OnOk r (new ≡ follows next m) → OnOk r (TeachesThen switch k next m new)
follows_nothing switch k next m new h (Ok done) is = record { taught = m; teaches = teaches_nothing switch k m h; now_is = is }
follows_nothing switch k next m new h (Err e) is = tt

pub follows_it : (switch : ℕ) (k : Key) (next : Next) (m new : State) (u : Update) (reply : Reply) → lesson_of switch k m ≡ Some u → ReachesThen u next m reply new → TeachesThen switch k next m new
follows_it switch k next m new u reply h r = record { taught = r.reached; teaches = teaches_it switch k m u h r.reached r.reaches.reaches; now_is = r.now_is }

-- ---- the job

-- what is learned opens no job
count_by : (b : Bool) (u : Update) (old new : State) → TeachesBy b u old new → new.job_count ≡ old.job_count
count_by true u old new (inl (taken, reaches)) = ap (λ (n : State). n.job_count) reaches.now_is
count_by true u old new (inr (refused, same)) = ap (λ (n : State). n.job_count) same
count_by false u old new same = ap (λ (n : State). n.job_count) same

pub same_count : (switch : ℕ) (k : Key) (old new : State) → Teaches switch k old new → new.job_count ≡ old.job_count
same_count switch k old new h = count_by (teaches switch k old) (taught_by switch k) old new h

abbrev job_with : ℕ → ℕ → ℕ → Key → ℕ → List ℕ → Job
job_with n c switch k buffer kept = record { number = n; connection = c; switch = switch; key = k; buffer = buffer; frame = kept }

pub job_opened : (c switch : ℕ) (k : Key) (buffer : ℕ) (frame kept : List ℕ) (n : ℕ) (item : Waiting) (old new : State) → n ≡ old.job_count + 1 → kept ≡ (if buffer == no_buffer then frame else [])
    → item ≡ record { job = n; switch = switch; key = k } → length old.jobs < most_jobs → TeachesThen switch k (nexts.Job (job_with n c switch k buffer kept)) old new
    → TakesIn c switch k buffer frame old (JobOpened item) new
job_opened c switch k buffer frame kept n item old new count keeps is few t =
    let number : n ≡ t.taught.job_count + 1 = count ∙ ap (λ (i : ℕ). i + 1) (sym (same_count switch k old t.taught t.teaches)) in
    let job : job_with n c switch k buffer kept ≡ next_job c switch k buffer frame t.taught = λ i. job_with (number i) c switch k buffer (keeps i) in
    (t.taught, t.teaches, inr (few, (ap JobOpened (is ∙ ap item_of job), t.now_is ∙ ap (λ (j : Job). opens_job j t.taught) job)))

-- ---- a packet that can be sent back

takes_in_as : (s : Session) (k : Key) (buffer in_port : ℕ) (frame : List ℕ) (old : State) (reply : Reply) (new : State) → key_of in_port frame ≡ Ok k → is_too_big buffer frame ≡ false
    → TakesIn s.connection (switch_of s) k buffer frame old reply new → HearsPacket s buffer in_port frame old reply new
takes_in_as s k buffer in_port frame old reply new key fits (taught, teaches, inl (many, r, is)) = inr (inr (inl (k, taught, key, fits, teaches, many, r, is)))
takes_in_as s k buffer in_port frame old reply new key fits (taught, teaches, inr (few, (r, is))) = inr (inr (inr (k, taught, key, fits, teaches, few, r, is)))

pub packet_taken : (c switch : ℕ) (k : Key) (buffer in_port : ℕ) (frame : List ℕ) (old new : State) → key_of in_port frame ≡ Ok k → is_too_big buffer frame ≡ false
    → (r : Result Reply NoMemory) → IfOk r (λ reply. TakesIn c switch k buffer frame old reply new) → IfOk r (λ reply. HearsPacketOf c switch buffer in_port frame old reply new)
packet_taken c switch k buffer in_port frame old new key fits (Ok reply) h =
    λ s of its. takes_in_as s k buffer in_port frame old reply new key fits
    (subst (λ (n : ℕ). TakesIn n (switch_of s) k buffer frame old reply new) (sym of) (subst (λ (n : ℕ). TakesIn c n k buffer frame old reply new) (sym its) h))
packet_taken c switch k buffer in_port frame old new key fits (Err e) h = tt
