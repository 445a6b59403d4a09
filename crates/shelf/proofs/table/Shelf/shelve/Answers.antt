use Rattle.std.proofs.Common.{sym}
use Rattle.shelf.proofs.Shelvings.{taken, new_stands, others_same, lawful_shelved}
use Rattle.shelf.proofs.table.Shelf.shelve.Goals as goal

pub invariant_of-self : goal.invariant_of-self
invariant_of-self c =
    let s = c.args.self.now in
    record { lawful = rw (c.push.ensures.items, c.filled.ensures) (lawful_shelved s.entries.items c.args.path.now c.args.number c.args.piece s.lawful (sym c.if-not-takes.ensures)) }

pub returns-clause-a_shelved_entry_stands : goal.returns-clause-a_shelved_entry_stands
returns-clause-a_shelved_entry_stands c =
    let es = c.args.self.now.entries.items in
    let facts = taken es c.args.path.now c.args.number c.args.piece (sym c.if-not-takes.ensures) in
    λ _. rw (c.push.ensures.items, c.filled.ensures) (new_stands es c.args.path.now c.args.number c.args.piece facts.unknown)

pub returns-clause-other_paths_answer_as_before : goal.returns-clause-other_paths_answer_as_before
returns-clause-other_paths_answer_as_before c = λ other ne. rw (c.push.ensures.items, c.filled.ensures) (others_same c.args.self.now.entries.items c.args.path.now c.args.number c.args.piece other ne)
