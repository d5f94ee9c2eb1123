use Rattle.lisp_heap.proofs.world.World.page.Given as goal

abbrev pub ghost-view_page : goal.ghost-view_page
ghost-view_page g a = g.a
