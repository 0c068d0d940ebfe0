-- What a contract sees of the machine, and what a turn does to it.
use Rattle.std.specs.Prelude.{◌≡◌, ◌∷◌, ℕ, List}
use Rattle.sx_journal.specs.declared.entry.Entry.{Entry}
use Rattle.sx_journal.specs.declared.entry.Event.{Event}
use Rattle.sx_journal.specs.declared.entry.Reply.{Reply}
use Rattle.sx_model.specs.Openings.{Opening}
use Rattle.sx_model.specs.Legal.{Legal, Allows}

-- what it began with, and its journal, seen newest first
pub record Machine : Type 0 where
  pub opening : Opening
  pub past : List Entry

-- a turn adds its entry, which is allowed, and leaves the opening
pub record Turns (old new : Machine) (actor : ℕ) (event : Event) (reply : Reply) : Type 0 where
  pub opening : new.opening ≡ old.opening
  pub entry : new.past ≡ record { actor = actor; event = event; reply = reply } ∷ old.past
  pub allowed : Allows old.opening old.past actor event reply
  pub legal : Legal new.opening new.past
