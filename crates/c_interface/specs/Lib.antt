pub mod PanelResult
