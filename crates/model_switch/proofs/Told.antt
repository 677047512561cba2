-- One call more that is told.
use Rattle.std.proofs.Common.{◌≡◌, List, [], ◌∷◌, ◌++◌, ap, ◌∙◌}
use Rattle.std.proofs.lemmas.List.{map_push}
use Rattle.device_port.specs.Devices.{Call}
use Rattle.model_switch.specs.declared.entry.Entry.{Entry}
use Rattle.model_switch.specs.Logs.{call_of, calls_of}

pub told_more : (list held new : List Entry) (entry : Entry) (call : Call) → new ≡ held ++ entry ∷ [] → held ≡ list → call_of entry ≡ call → calls_of new ≡ calls_of list ++ call ∷ []
told_more list held new entry call e f h =
    ap calls_of e ∙ ap (λ (es : List Entry). calls_of (es ++ entry ∷ [])) f ∙ map_push call_of list entry ∙ ap (λ (c : Call). calls_of list ++ c ∷ []) h
