use Rattle.split_search.proofs.guided_path.GuidedPath.is_over_class.Goals as goal

pub returns : goal.returns
returns c =
    let a = c.self.inside in
    let full = rw (← c.self.view_is) at c.requires in
    rw (← c.self.view_is)
    (c.are_over_class.ensures a.class.now a.path.top (c.self.invariant.0.of_top full))
