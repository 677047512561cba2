-- Each entry leaves a sound state.
use Rattle.std.proofs.Common.{◌≡◌, ◌≢◌, ℕ, Bool, true, false, [], refl, sym, subst, inl, inr, arith}
use Rattle.std.specs.Prelude.{◌==◌}
use Rattle.std.specs.FinMap as map
use Rattle.maple_base.specs.declared.cells.Place.{Place}
use Rattle.env_cells.specs.Environment.{place_cmp}
use Rattle.update_plan.proofs.Members.{pairs_none}
use Rattle.switch_traces.specs.Traces.{Learnings}
use Rattle.machine_steps.specs.declared.entry.Entry.TheVariants as entries
use Rattle.machine_steps.specs.declared.reply.Reply.{Reply}
use Rattle.machine_steps.specs.declared.reply.Reply.TheVariants.{NoMemory, Policy as PolicyLent}
use Rattle.machine_steps.specs.declared.job.Job.{Job}
use Rattle.machine_steps.specs.Machine.{Session, State, is_live, is_open}
use Rattle.machine_steps.specs.Steps.{Opens, TakesMessages, LendsPolicy, emptied}
use Rattle.machine_steps.specs.Places.{IsHeading, CanReach}
use Rattle.machine_steps.specs.Sound.{IsInOrder, AreOthers, IsSound}
use Rattle.machine_steps.specs.Laws.{OpensSound, KeepsSound}
use Rattle.machine_steps.proofs.Sound.Zipped.{all_weaker}
use Rattle.machine_steps.proofs.Sound.Following.{stays_in_phase}
use Rattle.machine_steps.proofs.Sound.Kept.{LowerLaws}
use Rattle.machine_steps.proofs.Sound.Moves.{order_outbox}
use Rattle.machine_steps.proofs.Sound.Reached.{renewed_sound}
use Rattle.machine_steps.proofs.Sound.Replaced.{sound_told, sound_with, sound_full, sound_opened, sound_gone}
use Rattle.machine_steps.proofs.Sound.Answering.{sound_commit}
use Rattle.machine_steps.proofs.Sound.Deciding.{sound_decide}
use Rattle.machine_steps.proofs.Sound.Hearing.{sound_update, sound_end, sound_input}

pub opens_sound : OpensSound
opens_sound policy settings ranges = record {
  ranges = ranges;
  learned = tt;
  lists = pairs_none (λ (k l : Learnings). k.switch ≢ l.switch);
  switches = tt;
  links = λ from there. (let none = map.get-empty {X = Place} place_cmp from in absurd (cc));
  sessions = tt;
  others = pairs_none AreOthers;
  few_sessions = omega arith;
  jobs = tt;
  numbers = pairs_none (λ (i j : Job). i.number ≢ j.number);
  few_jobs = omega arith;
}

-- nothing changed
stays : (old new : State) → IsSound old → new ≡ old → IsSound new
stays old new h e = subst IsSound (sym e) h

opens : (c : ℕ) (old : State) (reply : Reply) (new : State) → IsSound old → Opens c old reply new → IsSound new
opens c old reply new h (inl (was, e)) = stays old new h e.1
opens c old reply new h (inr (inl (fresh, full, r, e))) = subst IsSound (sym e) (sound_full old c _ h)
opens c old reply new h (inr (inr (inl (fresh, few, r, e)))) = subst IsSound (sym e) (sound_opened old c _ h fresh few)
opens c old reply new h (inr (inr (inr e))) = stays old new h e.1

-- a session whose messages were taken out
abbrev emptied_one : Session → Session
emptied_one s = record s { outbox = []; taken = s.used }

takes : (c : ℕ) (old : State) (reply : Reply) (new : State) → IsSound old → TakesMessages c old reply new → IsSound new
takes c old reply new h (inl (found, r, e)) = stays old new h e
takes c old reply new h (inr (inl (s, t, bytes, found, out, r, e))) = go (is_open s) refl (subst (λ x. new ≡ emptied (is_open s) x old) out.now_is e)
  where
    go : (b : Bool) → is_open s ≡ b → new ≡ emptied b (emptied_one s) old → IsSound new
    go true o f = subst IsSound (sym f) (sound_with old (λ (x : Session). x.connection == c) s (emptied_one s) old.lines h found (stays_in_phase s (emptied_one s) refl refl refl) (order_outbox old s [] s.used))
    go false o f = subst IsSound (sym f) (sound_gone old (λ (x : Session). x.connection == c) s s.connection h found refl o)
takes c old reply new h (inr (inr e)) = stays old new h e.1

lends : (old : State) (reply : Reply) (new : State) → IsSound old → LendsPolicy old reply new → IsSound new
lends old (PolicyLent number lent) new h e = stays old new h e.2
lends old NoMemory new h e = stays old new h e
lends old other new h e = absurd e

pub keeps_sound : LowerLaws → KeepsSound
keeps_sound laws old (entries.Open c) reply new h a s = opens c old reply new h s
keeps_sound laws old (entries.Heard c input) reply new h a s = sound_input laws c input old reply new h a s
keeps_sound laws old (entries.Gone c fault) reply new h a s = sound_end c _ old reply new h s
keeps_sound laws old (entries.Change u) reply new h a s = sound_update laws u old reply new h s
keeps_sound laws old (entries.NewPolicy p) reply new h a (inl s) = renewed_sound laws p old new h s.1
keeps_sound laws old (entries.NewPolicy p) reply new h a (inr s) = stays old new h s.1
keeps_sound laws old (entries.ReadCell c) reply new h a s = stays old new h s.1
keeps_sound laws old entries.ReadPolicy reply new h a s = lends old reply new h s
keeps_sound laws old (entries.ReadRules switch) reply new h a (inl s) = subst IsSound (sym s.3) (sound_told old _ h)
keeps_sound laws old (entries.ReadRules switch) reply new h a (inr s) = stays old new h s.1
keeps_sound laws old entries.OpenJobs reply new h a s = stays old new h s.1
keeps_sound laws old (entries.Commit job run) reply new h a s = sound_commit laws job run old reply new h a s
keeps_sound laws old (entries.Decide job) reply new h a s = sound_decide laws job old reply new h s
keeps_sound laws old (entries.TakeOut c) reply new h a s = takes c old reply new h s
keeps_sound laws old entries.TakeReport reply new h a (inl s) = subst IsSound (sym s.1) (sound_told old [] h)
keeps_sound laws old entries.TakeReport reply new h a (inr s) = stays old new h s.1
keeps_sound laws old (entries.Note note) reply new h a (inl s) = subst IsSound (sym s.1) (sound_told old _ h)
keeps_sound laws old (entries.Note note) reply new h a (inr s) = stays old new h s.1

-- a sound state may take an update
pub can_reach : (m : State) → IsSound m → CanReach m
can_reach m h = record {
  ranges = h.ranges;
  learned = h.learned;
  sessions = all_weaker (IsInOrder m) (λ s. is_live s ≡ true → IsHeading m s) (λ s o l. record { right = o.live l; idle = o.idle }) m.sessions h.sessions;
}
