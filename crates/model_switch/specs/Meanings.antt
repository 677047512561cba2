-- What each of the seven devices means.
use Rattle.std.specs.Prelude.{None, Some}
use Rattle.device_port.specs.Devices.{Meaning}
use Rattle.model_switch.specs.declared.orderly.Orderly.{Orderly}
use Rattle.model_switch.specs.declared.backward.Backward.{Backward}
use Rattle.model_switch.specs.declared.shuffled.Shuffled.{Shuffled}
use Rattle.model_switch.specs.declared.failing.Failing.{Failing}
use Rattle.model_switch.specs.declared.logged.Logged.{Logged}
use Rattle.model_switch.specs.declared.refusing.Refusing.{Refusing}
use Rattle.model_switch.specs.declared.liar.Liar.{Liar}
use Rattle.model_switch.specs.States.{meaning_of}
use Rattle.model_switch.specs.Lies.{lying}
use Rattle.model_switch.specs.Logs.{calls_of}

abbrev pub of_orderly : Orderly → Meaning
of_orderly a = meaning_of 0 None a.switch

abbrev pub of_backward : Backward → Meaning
of_backward a = meaning_of 0 None a.switch

abbrev pub of_shuffled : Shuffled → Meaning
of_shuffled a = meaning_of 0 None a.switch

abbrev pub of_failing : Failing → Meaning
of_failing a = meaning_of a.faults None a.inner.switch

abbrev pub of_logged : Logged → Meaning
of_logged a = meaning_of 0 (Some (calls_of a.calls.items)) a.inner.switch

abbrev pub of_refusing : Refusing → Meaning
of_refusing a = meaning_of 0 None a.inner.switch

abbrev pub of_liar : Liar → Meaning
of_liar a = lying a.inner.switch
