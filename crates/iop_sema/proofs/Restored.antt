-- Semaphores that are put back one behind the other.
use Rattle.std.proofs.Common.{◌≡◌, true, List, [], ◌∷◌, Some, None, Option, option_and_then, All, refl, ap, ◌∙◌}
use Rattle.std.specs.Prelude.{⊤}
use Rattle.std.proofs.lemmas.List.Elements.{All-head, All-tail}
use Rattle.iop_objects.specs.Objects.{Object, no_objects}
use Rattle.iop_objects.specs.Restoring.{with_object_back, with_objects_back, with_next_back}
use Rattle.iop_objects.proofs.Restored as objects
use Rattle.iop_sema.specs.Restoring.{is_sound, with_semaphore_back, with_semaphores_back, SemaphoresAreRestored}
use Rattle.iop_sema.specs.Semaphores.{Semaphores}
use Rattle.iop_sema.specs.declared.semaphore.Semaphore.{Semaphore}

-- no sound one is refused for what is known of it
abbrev IsSound : Object Semaphore ⊤ → Type 0
IsSound o = is_sound o.state ≡ true

semaphore_back : (s : Semaphores) (o : Object Semaphore ⊤) → IsSound o
    → with_semaphore_back s o ≡ with_object_back s o
semaphore_back s o sound = rw sound refl

semaphores_back : (s : Semaphores) (os : List (Object Semaphore ⊤)) → All IsSound os
    → with_semaphores_back s os ≡ with_objects_back s os
semaphores_back s [] sound = refl
semaphores_back s (o ∷ os) sound =
    ap (option_and_then (λ t. with_semaphores_back t os))
    (semaphore_back s o (All-head IsSound o os sound))
    ∙ each (λ t. semaphores_back t os (All-tail IsSound o os sound)) (with_object_back s o)
  where
    each : ((t : Semaphores) → with_semaphores_back t os ≡ with_objects_back t os)
        → (r : Option Semaphores)
        → option_and_then (λ t. with_semaphores_back t os) r
        ≡ option_and_then (λ t. with_objects_back t os) r
    each later None = refl
    each later (Some t) = later t

pub are_restored : SemaphoresAreRestored
are_restored s h =
    ap (option_and_then (λ t. with_next_back t s.next))
    (semaphores_back no_objects s.live h.semaphores)
    ∙ objects.are_restored s h.objects
