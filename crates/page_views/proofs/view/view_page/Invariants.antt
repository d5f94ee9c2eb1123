use Rattle.page_views.proofs.view.view_page.Given as goal

abbrev pub ghost-items_on : goal.ghost-items_on
ghost-items_on g a = g.a

abbrev pub ghost-name_at : goal.ghost-name_at
ghost-name_at g a = g.a
