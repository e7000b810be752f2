use Rattle.std.proofs.Common.{map, string_bytes}
use Rattle.std.proofs.lemmas.List.{map_push}
use Rattle.session_scripts.proofs.NamedSessions.{IsBatch-session}
use Rattle.session_scripts.proofs.batch.Batch.add_session.Goals as goal

pub invariant_of-self-2 : goal.invariant_of-self-2
invariant_of-self-2 c =
    let sessions = c.self.inside.sessions.items in
    let few = rw (← c.self.view_is) at c.requires.room in
    rw (c.in-Ok-push.ensures.items, map_push string_bytes sessions c.in-Ok.name, c.in-Ok.ensures.ok, c.name_text.ensures)
    (IsBatch-session (map string_bytes sessions) c.args.session.now c.self.inside.lines.items c.self.invariant c.requires.name few)
