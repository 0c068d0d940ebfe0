-- Worked examples of the answers and of the schedule, by computation: two clients on one row, an undo, and a client that gives up.
use Rattle.std.proofs.Common.{◌≡◌, ℕ, List, [], ◌∷◌, ◌++◌, Option, Some, None, refl, true, false}
use Rattle.std.specs.Prelude.{codes, replicate}
use Rattle.sx_values.specs.declared.value.Value.{Value}
use Rattle.sx_values.specs.declared.value.Value.TheVariants.{Text, Null}
use Rattle.sx_values.specs.declared.schema.Kind.TheVariants as kind
use Rattle.sx_values.specs.Layouts.{Layout}
use Rattle.sx_values.specs.declared.catalog.Declared.{Declared}
use Rattle.sx_log.specs.declared.record.Load.{Load}
use Rattle.sx_sync.specs.declared.Strategy.TheVariants.{Blocking}
use Rattle.sx_journal.specs.declared.entry.Entry.{Entry}
use Rattle.sx_journal.specs.declared.entry.Event.TheVariants.{Client}
use Rattle.sx_journal.specs.declared.entry.Request.{Request}
use Rattle.sx_journal.specs.declared.entry.Request.TheVariants as request
use Rattle.sx_journal.specs.declared.entry.Reply.{Reply}
use Rattle.sx_journal.specs.declared.entry.Reply.TheVariants as reply
use Rattle.sx_journal.specs.declared.entry.What.TheVariants.{Ask}
use Rattle.sx_log.specs.State.{after_body}
use Rattle.sx_log.specs.Undoing.{left_after, undo_of}
use Rattle.sx_journal.specs.Courses.{is_held, is_doomed, is_aborted, ends_abort, is_commit}
use Rattle.sx_model.specs.Held.{asks_for_key, is_for_key}
use Rattle.sx_model.specs.Effects.{effect}
use Rattle.sx_model.specs.Openings.{Opening, opening}
use Rattle.sx_model.specs.Logs.{event_record, request_record}
use Rattle.sx_model.specs.Replies.{client_reply, reply_inside, reply_ending, reply_outside}
use Rattle.sx_model.specs.Schedules.{Plan, Line, Turn, next_turn, client_turn}

abbrev t : List ℕ
t = codes "t"

abbrev a : Value
a = Text (codes "a")

abbrev b : Value
b = Text (codes "b")

abbrev c : Value
c = Text (codes "c")

abbrev d : Value
d = Text (codes "d")

abbrev layout : Layout
layout = record { columns = record { name = codes "id"; kind = kind.Text; nullable = false } ∷ record { name = codes "v"; kind = kind.Text; nullable = true } ∷ []; key = 0 ∷ [] }

abbrev catalog : List Declared
catalog = record { name = t; schema = layout; indexes = []; source = true } ∷ []

abbrev row : Value → Value → List Value
row x y = x ∷ y ∷ []

abbrev loads : List Load
loads = record { table = t; row = row a b } ∷ []

abbrev o : Opening
o = opening catalog loads

abbrev e : ℕ → Request → Reply → Entry
e n asked answer = record { actor = n; event = Client asked; reply = answer }

abbrev two_begun : List Entry
two_begun = e 2 request.Begin (reply.Begun 2) ∷ e 1 request.Begin (reply.Begun 1) ∷ []

abbrev one_wrote : List Entry
one_wrote = e 1 (request.Update t (row a c)) (reply.Done 2) ∷ two_begun

abbrev held_nine : List Entry
held_nine = replicate 9 (e 2 (request.Update t (row a d)) (reply.Held 1)) ++ one_wrote

check-1 : client_reply o two_begun 1 (request.Update t (row a c)) ≡ reply.Done 2
unfolding reply_inside reply_ending reply_outside effect event_record request_record after_body left_after undo_of asks_for_key is_for_key
check-1 = refl

check-2 : client_reply o one_wrote 2 (request.Update t (row a d)) ≡ reply.Held 1
unfolding reply_inside reply_ending reply_outside effect event_record request_record after_body left_after undo_of asks_for_key is_for_key
check-2 = refl

check-3 : client_reply o one_wrote 2 (request.Read t (a ∷ [])) ≡ reply.Held 1
unfolding reply_inside reply_ending reply_outside effect event_record request_record after_body left_after undo_of asks_for_key is_for_key
check-3 = refl

check-4 : client_reply o one_wrote 1 (request.Read t (a ∷ [])) ≡ reply.Row (row a c)
unfolding reply_inside reply_ending reply_outside effect event_record request_record after_body left_after undo_of asks_for_key is_for_key
check-4 = refl

check-5 : client_reply o one_wrote 1 request.Undo ≡ reply.Undone 3
unfolding reply_inside reply_ending reply_outside effect event_record request_record after_body left_after undo_of asks_for_key is_for_key
check-5 = refl

check-6 : client_reply o (e 1 request.Undo (reply.Undone 3) ∷ one_wrote) 1 request.Commit ≡ reply.Ending
unfolding reply_inside reply_ending reply_outside effect event_record request_record after_body left_after undo_of asks_for_key is_for_key
check-6 = refl

check-7 : client_reply o (e 1 request.Undo (reply.Undone 3) ∷ one_wrote) 2 (request.Read t (a ∷ [])) ≡ reply.Held 1
unfolding reply_inside reply_ending reply_outside effect event_record request_record after_body left_after undo_of asks_for_key is_for_key
check-7 = refl

check-8 : client_reply o (e 1 request.Undo (reply.Aborted 4) ∷ e 1 request.Undo (reply.Undone 3) ∷ one_wrote) 2 (request.Read t (a ∷ [])) ≡ reply.Row (row a b)
unfolding reply_inside reply_ending reply_outside effect event_record request_record after_body left_after undo_of asks_for_key is_for_key
check-8 = refl

check-9 : client_reply o (e 1 request.Undo (reply.Undone 3) ∷ one_wrote) 1 request.Undo ≡ reply.Aborted 4
unfolding reply_inside reply_ending reply_outside effect event_record request_record after_body left_after undo_of asks_for_key is_for_key
check-9 = refl

check-10 : client_reply o one_wrote 2 (request.Insert t (row a Null)) ≡ reply.Held 1
unfolding reply_inside reply_ending reply_outside effect event_record request_record after_body left_after undo_of asks_for_key is_for_key
check-10 = refl

check-11 : client_reply o one_wrote 3 (request.Insert t (row b Null)) ≡ reply.NoTxn
unfolding reply_inside reply_ending reply_outside effect event_record request_record after_body left_after undo_of asks_for_key is_for_key
check-11 = refl

abbrev line : ℕ → ℕ → Request → Line
line place n asked = record { client = n; command = record { line = place; what = Ask asked } }

abbrev plan : Plan
plan = record {
  catalog = catalog;
  loads = loads;
  lines = line 3 1 request.Begin ∷ line 4 2 request.Begin ∷ line 5 1 (request.Update t (row a c)) ∷ line 6 2 (request.Update t (row a d)) ∷ line 7 2 (request.Read t (a ∷ [])) ∷ line 8 2 request.Commit
      ∷ line 9 2 request.Begin ∷ line 10 1 request.Commit ∷ line 11 2 (request.Update t (row a b)) ∷ line 12 2 request.Commit ∷ [];
  paces = [];
  change = None;
  strategy = Blocking;
  retries = 8;
}

abbrev turn : ℕ → Request → Option Turn
turn n asked = Some (client_turn n asked)

next-1 : next_turn plan two_begun ≡ turn 1 (request.Update t (row a c))
unfolding effect is_held is_doomed is_aborted ends_abort is_commit
next-1 = refl

next-2 : next_turn plan (replicate 8 (e 2 (request.Update t (row a d)) (reply.Held 1)) ++ one_wrote) ≡ turn 2 (request.Update t (row a d))
unfolding effect is_held is_doomed is_aborted ends_abort is_commit
next-2 = refl

next-3 : next_turn plan held_nine ≡ turn 2 request.Undo
unfolding effect is_held is_doomed is_aborted ends_abort is_commit
next-3 = refl

next-4 : next_turn plan (e 2 request.Undo (reply.Aborted 3) ∷ held_nine) ≡ turn 2 request.Begin
unfolding effect is_held is_doomed is_aborted ends_abort is_commit
next-4 = refl

next-5 : next_turn plan (e 2 request.Begin (reply.Begun 3) ∷ e 2 request.Undo (reply.Aborted 3) ∷ held_nine) ≡ turn 1 request.Commit
unfolding effect is_held is_doomed is_aborted ends_abort is_commit
next-5 = refl
